-- Line-ups that are read one after the other into the entries.
use Rattle.std.proofs.Common.{◌≡◌, ℕ, ◌+◌, ◌-◌, ◌<◌, ◌≤◌, List, [], ◌∷◌, ◌++◌, length, set, take, drop, refl, ap, ◌∙◌, arith, append_assoc, append-nil, length-drop, length-take, take-add}
use Rattle.std.proofs.lemmas.List.{drop_all, drop_at, drop-drop, take_all, take_at, take_more_set}
use Rattle.std.proofs.Math.Seq.{drop-append-add}
use Rattle.recording.specs.Record.{parts, total}
use Rattle.recording.proofs.Lineups.{parts_push, total_append}

-- parts that stand in front do not see what is written after them
parts_before : (ns es new : List ℕ) → total ns ≤ length es → parts ns (take (total ns) es ++ new) ≡ parts ns es
unfolding parts total
parts_before [] es new h = refl
parts_before (m ∷ ms) es new h =
    let cut = take-add m (total ms) es in
    let long : length (take m es) ≡ m = length-take m es ∙ omega arith in
    let behind = take (total ms) (drop m es) in
    let e = append_assoc (take m es) behind new in
    let t = take_at (take m es) (behind ++ new) m long in
    let d = drop_at (take m es) (behind ++ new) m long in
    rw (cut, e, t, d) (ap (λ (ps : List (List ℕ)). take m es ∷ ps) (parts_before ms (drop m es) new (simp length-drop (omega arith))))

-- of the lengths ns the first i are read and take up a entries of es; then the next is read, which is m, into what is left
-- of es, and that part now is new
module _ (ns es new : List ℕ) (i m a : ℕ) (count : total (take i ns) ≡ a) (there : i < length ns) (room : a ≤ length es) where
  plain : take a es ++ (new ++ drop (length es - a) (drop a es)) ≡ take a es ++ new
  plain = rw (drop_all (length es - a) (drop a es) (simp length-drop (omega arith)), append-nil new) refl

  pub total_next : total (take (i + 1) (set ns i m)) ≡ a + m
  unfolding total
  total_next = rw (take_more_set ns i m there) (total_append (take i ns) (m ∷ []) ∙ omega arith)

  pub parts_next : parts (take (i + 1) (set ns i m)) (take a es ++ (new ++ drop (length es - a) (drop a es))) ≡ parts (take i ns) es ++ take m new ∷ []
  parts_next =
      let front = parts_before (take i ns) es new (omega (arith, count)) in
      let d = drop_at (take a es) new a (length-take a es ∙ omega arith) in
      rw (take_more_set ns i m there, plain) (parts_push (take i ns) (take a es ++ new) m ∙ rw (count, d) (ap (λ (ps : List (List ℕ)). ps ++ take m new ∷ []) (rw count at front)))

  pub rest_next : (old : List ℕ) → drop a es ≡ drop a old → drop m new ≡ drop m (take (length es - a) (drop a es)) → drop (a + m) (take a es ++ (new ++ drop (length es - a) (drop a es))) ≡ drop (a + m) old
  rest_next old so same =
      let whole = take_all (length es - a) (drop a es) (simp length-drop (omega arith)) in
      let long : length (take a es) ≡ a = length-take a es ∙ omega arith in
      let behind : drop (length (take a es) + m) (take a es ++ new) ≡ drop m new = drop-append-add (take a es) new m in
      rw plain (rw long at behind ∙ rw whole at same ∙ ap (drop m) so ∙ drop-drop m a old)
