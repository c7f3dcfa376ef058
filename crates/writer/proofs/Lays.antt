-- Fields written one after the other.
use Rattle.std.proofs.Common.{◌≡◌, ℕ, suc, ◌+◌, ◌-◌, ◌%◌, ◌^◌, ◌<◌, ◌≤◌, List, [], ◌∷◌, ◌++◌, length, get_or, take, drop, replicate, refl, ap, ◌∙◌, inl, inr, add-zero, mod-eq_of_lt, sym, arith, take-append-drop, drop-drop}
use Rattle.std.specs.List.{flat_map}
use Rattle.std.proofs.lemmas.List.{drop_more, drop_all, flat_map_more, length-drop, replicate_more, take_all, take_more}
use Rattle.bits.specs.Bits.{Overwritten}
use Rattle.recording.specs.Layout.{Field, Laid, bits, gap, lineup_fields, span}
use Rattle.recording.specs.Record.{parts, total}
use Rattle.recording.proofs.Layouts.{laid_append, laid_same, span_append}
use Rattle.recording.proofs.Lineups.{all_split, parts_push, total_append}
use Rattle.writer.specs.declared.bit_writer.BitWriter.{BitWriter}
use Rattle.writer.specs.Laying.{Fits, LaidOver, Ready, filling_fields}

-- no field
pub wrote_none : (w : BitWriter) → LaidOver w w []
unfolding Laid span
wrote_none w = record { same_reference = refl; laid = tt; end = sym (add-zero w.place); others = λ k h. refl; long = refl }

-- fields, and then other fields
pub wrote_append : {a b c : BitWriter} {fs gs : List Field} → LaidOver a b fs → LaidOver b c gs → LaidOver a c (fs ++ gs)
wrote_append {a} {b} {c} {fs} {gs} f g =
    let e = f.end in
    let d = g.end in
    let s = span_append fs gs in
    record {
      same_reference = g.same_reference ∙ f.same_reference;
      laid = laid_append c.bytes.now a.place fs gs (laid_same b.bytes.now c.bytes.now a.place fs (λ k _ l. g.others k (inl (omega arith))) f.laid) (rw e at g.laid);
      end = omega arith;
      others = λ k h. elim h [
        | inl l ↦ (g.others k (inl (omega arith)) ∙ f.others k (inl l))
        | inr l ↦ (g.others k (inr l) ∙ f.others k (inr (omega arith)))
      ];
      long = g.long ∙ f.long;
    }

-- the first items, and then one more
pub wrote_item : {A : Type 0} (fields : A → List Field) (xs : List A) (i : ℕ) (d : A) → i < length xs → {a b c : BitWriter}
    → LaidOver a b (flat_map fields (take i xs)) → LaidOver b c (fields (get_or xs i d)) → LaidOver a c (flat_map fields (take (i + 1) xs))
wrote_item fields xs i d h f g = rw (take_more xs i d h, ← flat_map_more fields [] (take i xs) (get_or xs i d)) (wrote_append f g)

-- a field, and then other fields
pub wrote_more : {a b c : BitWriter} {f : Field} {fs : List Field} → LaidOver a b (f ∷ []) → LaidOver b c fs → LaidOver a c (f ∷ fs)
wrote_more f g = wrote_append f g

-- ---- room for fields, and then for other fields

pub ready_front : {w : BitWriter} {fs : List Field} (gs : List Field) → Ready w (fs ++ gs) → Ready w fs
ready_front {w} {fs} gs h =
    let s = span_append fs gs in
    let a = h.room in
    record { fits = (all_split Fits fs gs h.fits).0; room = omega arith }

-- any writer that stands after the fields fs, over as many bytes
pub ready_back : {a b : BitWriter} (fs gs : List Field) → Ready a (fs ++ gs) → b.place ≡ a.place + span fs → length b.bytes.now ≡ length a.bytes.now → Ready b gs
ready_back {a} {b} fs gs h e l =
    let s = span_append fs gs in
    let r = h.room in
    record { fits = (all_split Fits fs gs h.fits).1; room = omega arith }

pub ready_next : {a b : BitWriter} {fs : List Field} (gs : List Field) → Ready a (fs ++ gs) → LaidOver a b fs → Ready b gs
ready_next gs h w = ready_back _ gs h w.end w.long

-- ---- fields that are left to write

-- of the fields fs, with which the writer a began, the fields gs are left at the writer b
pub record Left (a b : BitWriter) (fs gs : List Field) : Type 0 where
  pub ready : Ready b gs
  pub whole : (c : BitWriter) → LaidOver b c gs → LaidOver a c fs

pub left_none : {a b : BitWriter} {fs : List Field} → Left a b fs [] → LaidOver a b fs
left_none {a} {b} {fs} l = l.whole b (wrote_none b)

pub left_more : {a b c : BitWriter} {fs gs hs : List Field} → Left a b fs (gs ++ hs) → LaidOver b c gs → Left a c fs hs
left_more {a} {b} {c} {fs} {gs} {hs} l w = record { ready = ready_next hs l.ready w; whole = λ d v. l.whole d (wrote_append w v) }

-- ---- items, one after the other

module _ {A : Type 0} (fields : A → List Field) (xs : List A) (i : ℕ) {a b : BitWriter} {fs : List Field} (l : Left a b fs (flat_map fields (drop i xs))) where
  -- the fields of the item at i, and then those of the items after it
  left_item : (x : A) → i < length xs → x ≡ get_or xs i x → Left a b fs (fields x ++ flat_map fields (drop (i + 1) xs))
  left_item x h e = rw (drop_more xs i x h, ← e) at l

  pub item_ready : (x : A) → i < length xs → x ≡ get_or xs i x → Ready b (fields x)
  item_ready x h e = ready_front _ (left_item x h e).ready

  pub items_more : {c : BitWriter} (x : A) → i < length xs → x ≡ get_or xs i x → LaidOver b c (fields x) → Left a c fs (flat_map fields (drop (i + 1) xs))
  items_more x h e w = left_more (left_item x h e) w

  pub items_all : length xs ≤ i → LaidOver a b fs
  items_all h = left_none (rw (drop_all i xs h) at l)

-- ---- line-ups, one after the other

-- of the fields fs, with which the writer a began, those of line-ups of the lengths ns are left at the writer b, and the entries es begin with theirs
pub record LeftLineups (a b : BitWriter) (fs : List Field) (ns es : List ℕ) : Type 0 where
  pub left : Left a b fs (flat_map lineup_fields (parts ns es))
  pub there : total ns ≤ length es

module _ {a b : BitWriter} {fs : List Field} (ns es : List ℕ) (i : ℕ) (l : LeftLineups a b fs (drop i ns) es) where
  -- the line-up at i, and then those after it
  left_lineup : i < length ns → LeftLineups a b fs (get_or ns i 0 ∷ drop (i + 1) ns) es
  left_lineup h = rw (drop_more ns i 0 h) at l

  pub lineup_there : i < length ns → get_or ns i 0 ≤ length es
  unfolding total
  lineup_there h = let t = (left_lineup h).there in omega arith

  pub lineup_ready : {xs : List ℕ} → i < length ns → xs ≡ take (get_or ns i 0) es → Ready b (lineup_fields xs)
  unfolding parts
  lineup_ready h e = rw e (ready_front _ (left_lineup h).left.ready)

  pub lineups_more : {c : BitWriter} {xs ys : List ℕ} → i < length ns → xs ≡ take (get_or ns i 0) es → ys ≡ drop (get_or ns i 0) es → LaidOver b c (lineup_fields xs)
      → LeftLineups a c fs (drop (i + 1) ns) ys
  unfolding parts total
  lineups_more h e d w =
      let k = left_lineup h in
      let t = k.there in
      rw d (record { left = left_more k.left (rw e at w); there = simp length-drop (omega arith) })

  pub lineups_all : length ns ≤ i → LaidOver a b fs
  unfolding parts
  lineups_all h = left_none (rw (drop_all i ns h) at l.left)

-- ---- the filling

pub filling_more : {a b c : BitWriter} {fs : List Field} → Left a b fs (filling_fields b.place) → (b.place % 8 ≡ 0 → ⊥) → LaidOver b c (bits 1 0 ∷ []) → Left a c fs (filling_fields c.place)
unfolding span gap
filling_more {a} {b} {c} l h w =
    let e = w.end in
    let g : gap b.place ≡ suc (gap c.place) = omega arith in
    left_more (rw g at l) w

-- ---- steps that no proof here takes any more; docs/PORT.md names them, but for lineups_whole

-- one field, set to a value that fits it
pub wrote_set : {a b : BitWriter} (w v : ℕ) → b.bytes.ghost_name ≡ a.bytes.ghost_name → v < 2 ^ w → b.place ≡ a.place + w → Overwritten a.bytes.now b.bytes.now a.place w (v % 2 ^ w)
    → LaidOver a b (bits w v ∷ [])
unfolding Laid span
wrote_set {a} {b} w v n h e o =
    record {
      same_reference = n;
      laid = (o.field ∙ mod-eq_of_lt h, tt);
      end = omega arith;
      others = λ k l. o.others k (elim l [ inl a ↦ inl a | inr a ↦ inr (omega arith) ]);
      long = o.long;
    }

module _ {A : Type 0} (fields : A → List Field) (xs : List A) (i : ℕ) (d : A) (h : i < length xs) {a : BitWriter} (r : Ready a (flat_map fields (drop i xs))) where
  pub ready_item : Ready a (fields (get_or xs i d))
  ready_item = ready_front _ (rw (drop_more xs i d h) at r)

  pub ready_items : {b : BitWriter} → b.place ≡ a.place + span (fields (get_or xs i d)) → length b.bytes.now ≡ length a.bytes.now → Ready b (flat_map fields (drop (i + 1) xs))
  ready_items e l = ready_back (fields (get_or xs i d)) _ (rw (drop_more xs i d h) at r) e l

module _ (ns es : List ℕ) (i s : ℕ) (h : i < length ns) where
  -- the line-up at i ends within the entries that all have
  pub lineup_ends : s ≡ total (take i ns) → s + get_or ns i 0 ≤ total ns
  unfolding total
  lineup_ends e =
      let a = ap total (take-append-drop i ns) in
      let b = total_append (take i ns) (drop i ns) in
      let c = ap total (drop_more ns i 0 h) in
      omega arith

  pub lineups_start : s ≡ total (take i ns) → s + get_or ns i 0 ≡ total (take (i + 1) ns)
  unfolding total
  lineups_start e = rw (take_more ns i 0 h, total_append (take i ns) (get_or ns i 0 ∷ [])) (omega arith)

  pub lineups_ready : {a : BitWriter} → Ready a (flat_map lineup_fields (parts (drop i ns) (drop s es)))
      → Ready a (lineup_fields (take (get_or ns i 0) (drop s es)) ++ flat_map lineup_fields (parts (drop (i + 1) ns) (drop (s + get_or ns i 0) es)))
  unfolding parts
  lineups_ready r = rw (drop-drop (get_or ns i 0) s es) at (rw (drop_more ns i 0 h) at r)

  pub lineups_wrote : s ≡ total (take i ns) → {a b c : BitWriter} → LaidOver a b (flat_map lineup_fields (parts (take i ns) es))
      → LaidOver b c (lineup_fields (take (get_or ns i 0) (drop s es))) → LaidOver a c (flat_map lineup_fields (parts (take (i + 1) ns) es))
  lineups_wrote e f g =
      rw (take_more ns i 0 h, parts_push (take i ns) es (get_or ns i 0), ← e, ← flat_map_more lineup_fields [] (parts (take i ns) es) (take (get_or ns i 0) (drop s es)))
      (wrote_append f g)

-- as lineups_all, from the line-ups that are written
pub lineups_whole : (ns es : List ℕ) (i : ℕ) → length ns ≤ i → {a b : BitWriter} → LaidOver a b (flat_map lineup_fields (parts (take i ns) es)) → LaidOver a b (flat_map lineup_fields (parts ns es))
lineups_whole ns es i h f = rw (take_all i ns h) at f

module _ (n i : ℕ) (h : i < n) where
  next_bit : n - i ≡ suc (n - (i + 1))
  next_bit = omega arith

  pub ready_bit : {a : BitWriter} → Ready a (replicate (n - i) (bits 1 0)) → Ready a (bits 1 0 ∷ replicate (n - (i + 1)) (bits 1 0))
  ready_bit r = rw next_bit at r

  pub wrote_bit : {a b c : BitWriter} → LaidOver a b (replicate i (bits 1 0)) → LaidOver b c (bits 1 0 ∷ []) → LaidOver a c (replicate (i + 1) (bits 1 0))
  wrote_bit f g = rw (← replicate_more i (bits 1 0)) (wrote_append f g)
