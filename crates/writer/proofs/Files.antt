-- The fields of a recording within the limits fit, and laid out with their filling they are its file.
use Rattle.std.proofs.Common.{◌≡◌, ℕ, zero, suc, ◌+◌, ◌*◌, ◌/◌, ◌^◌, ◌<◌, ◌≤◌, Bool, true, false, cond, List, [], ◌∷◌, ◌++◌, length, get_or, take, replicate, refl, ap, ◌∙◌, inl, arith, rules, length-take, drop, sym}
use Rattle.std.specs.List.{flat_map}
use Rattle.std.proofs.lemmas.List.{drop_at, get_or_past, get_or-take, take_at}
use Rattle.std.proofs.lemmas.List.Elements.{recursion_from_All}
use Rattle.std.proofs.lemmas.Bool.{cases_lt}
use Rattle.bits.specs.Bits.{spelled}
use Rattle.bits.proofs.Spells.{spelled_split}
use Rattle.recording.specs.declared.record.Event.{Event}
use Rattle.recording.specs.declared.record.Recording.{Recording}
use Rattle.recording.specs.Layout.{IsFile, Laid, bits, entry_fields, event_fields, gap, header_fields, lineup_fields, record_fields, span}
use Rattle.recording.specs.Record.{EventOk, Limits, lineups_of, max_call, max_order, max_stations, used_events, used_lengths}
use Rattle.std.specs.List.{AllByRecursion}
use Rattle.recording.proofs.Layouts.{kind_most, laid_same, same_file, span_append}
use Rattle.recording.proofs.Lineups.{LineupOk, all_append, all_parts, full_entries}
use Rattle.writer.proofs.Lays.{ready_next}
use Rattle.writer.specs.Laying.{Fits, LaidOver, Ready, filling_fields}
use Rattle.writer.specs.declared.bit_writer.BitWriter.{BitWriter}
use Rattle.writer.specs.Writing.{Written, file_size, max_size}

-- ---- every value fits its field

all_flat_map : {A B : Type 0} (P : A → Type 0) (Q : B → Type 0) (f : A → List B) → ((x : A) → P x → AllByRecursion Q (f x)) → (xs : List A) → AllByRecursion P xs → AllByRecursion Q (flat_map f xs)
all_flat_map P Q f each [] h = tt
all_flat_map P Q f each (x ∷ xs) h = all_append Q (f x) (flat_map f xs) (each x h.0) (all_flat_map P Q f each xs h.1)

event_fits : (st : ℕ) → st ≤ max_stations → (e : Event) → EventOk st e → AllByRecursion Fits (event_fields e)
unfolding event_fields
event_fits st h e o = let k = kind_most e.kind in grind (arith, k, o.station, o.order)

entries_fit : (es : List ℕ) → AllByRecursion (λ c. c ≤ max_call) es → AllByRecursion Fits (flat_map entry_fields es)
entries_fit es o = all_flat_map (λ c. c ≤ max_call) Fits entry_fields (λ c h. (omega arith, tt)) es o

lineup_fits : (l : List ℕ) → LineupOk l → AllByRecursion Fits (lineup_fields l)
unfolding lineup_fields
lineup_fits l o = (omega (arith, o.0), entries_fit l o.1)

zeros_fit : (n : ℕ) → AllByRecursion Fits (replicate n (bits 1 0))
zeros_fit zero = tt
zeros_fit (suc n) = (omega arith, zeros_fit n)

record_fits : (r : Recording) → Limits r → AllByRecursion Fits (record_fields r)
unfolding record_fields
record_fits r o =
    let f = o.fields in
    all_append Fits (header_fields r) _ (search (rules, f.code, f.stations, f.count))
    (all_append Fits (flat_map event_fields (used_events r)) (flat_map lineup_fields (lineups_of r))
    (all_flat_map (EventOk r.stations) Fits event_fields (event_fits r.stations f.stations) (used_events r) (recursion_from_All _ _ f.events))
    (all_flat_map LineupOk Fits lineup_fields lineup_fits (lineups_of r) (all_parts (used_lengths r) r.entries (full_entries r o) (recursion_from_All _ _ f.lengths) (recursion_from_All _ _ f.entries))))

-- ---- there is room

zeros_span : (n : ℕ) → span (replicate n (bits 1 0)) ≡ n
unfolding span
zeros_span zero = refl
zeros_span (suc n) = let e = zeros_span n in omega arith

size_bits : (p : ℕ) → 8 * ((p + 7) / 8) ≡ p + gap p
unfolding gap
size_bits p = omega arith

pub file_size_lem : (bs : List ℕ) (r : Recording) → IsFile bs r → length bs ≡ file_size r
file_size_lem bs r f =
    let a = f.whole in
    let b = size_bits (span (record_fields r)) in
    omega arith

-- ---- it is the file

no_bits : (bs : List ℕ) (p : ℕ) → spelled bs p 0 ≡ 0
unfolding spelled
no_bits bs p = refl

laid_zeros : (bs : List ℕ) (n p : ℕ) → Laid bs p (replicate n (bits 1 0)) → spelled bs p n ≡ 0
unfolding Laid
laid_zeros bs zero p h = no_bits bs p
laid_zeros bs (suc n) p h =
    let e : suc n ≡ 1 + n = omega arith in
    rw (e, spelled_split bs p 1 n, h.0, laid_zeros bs n (p + 1) h.1) (omega arith)

-- a writer at the first bit of so many bytes has room for the fields of a recording, and then for the filling; they are the file
module _ (r : Recording) {a : BitWriter} {old : List ℕ} (z : a.place ≡ 0) (s : a.bytes.now ≡ old) (n : length old ≡ file_size r) where
  pub ready_record : Limits r → file_size r ≤ max_size → Ready a (record_fields r)
  ready_record o m =
      let b = size_bits (span (record_fields r)) in
      let l = ap length s ∙ n in
      record { fits = record_fits r o; room = omega arith }

  pub ready_filling : {b : BitWriter} → file_size r ≤ max_size → LaidOver a b (record_fields r) → Ready b (filling_fields b.place)
  ready_filling {b} m f =
      let k = size_bits (span (record_fields r)) in
      let l = f.long ∙ ap length s ∙ n in
      let e = f.end in
      let p : b.place ≡ span (record_fields r) = omega arith in
      let g = zeros_span (gap b.place) in
      record { fits = zeros_fit (gap b.place); room = rw (g, p) (omega arith) }

  pub file_laid : {b c : BitWriter} {bs : List ℕ} → LaidOver a b (record_fields r) → LaidOver b c (filling_fields b.place) → bs ≡ c.bytes.now → IsFile bs r
  file_laid {b} {c} f g e =
      let k = size_bits (span (record_fields r)) in
      let l = g.long ∙ f.long ∙ ap length s ∙ n in
      let p = f.end in
      let t : b.place ≡ span (record_fields r) = omega arith in
      rw e (record {
        fields = laid_same b.bytes.now c.bytes.now 0 (record_fields r) (λ k _ i. g.others k (inl (omega arith))) (rw z at f.laid);
        filling = rw t at (laid_zeros c.bytes.now (gap b.place) b.place g.laid);
        whole = omega arith;
      })

-- ---- at the front of a buffer

front_small : (n : ℕ) (bs : List ℕ) → ((i : ℕ) → get_or bs i 0 < 256) → (i : ℕ) → get_or (take n bs) i 0 < 256
front_small n bs h i = grind (arith, get_or-take, get_or_past, length-take, cases_lt i n, h i)

pub front_written : (r : Recording) (n : ℕ) (old bs : List ℕ) → Limits r → n ≡ file_size r → n ≤ length old → IsFile bs r → ((i : ℕ) → get_or (bs ++ drop n old) i 0 < 256) → Written r old (bs ++ drop n old) n
front_written r n old bs o s m f h =
    let k : length bs ≡ n = file_size_lem bs r f ∙ sym s in
    let g : IsFile (take n (bs ++ drop n old)) r = rw (take_at bs (drop n old) n k) f in
    record {
      limits = o;
      size = s;
      room = m;
      file = g;
      only = λ cs c i. same_file cs _ r c (front_small n (bs ++ drop n old) h) i g;
      rest = drop_at bs (drop n old) n k;
    }

-- ---- steps that no proof here takes any more; docs/PORT.md names them, but for ready_filling_of

order_fits : (e : Event) (b : Bool) → e.order ≤ max_order → AllByRecursion Fits (cond b (bits 12 e.order ∷ []) [])
order_fits e true o = (omega arith, tt)
order_fits e false o = tt

module _ (r : Recording) {a : BitWriter} (z : a.place ≡ 0) where
  pub ready_file : length a.bytes.now ≡ file_size r → Limits r → file_size r < 2 ^ 50 → Ready a (record_fields r ++ filling_fields (span (record_fields r)))
  ready_file n o h =
      let p = span (record_fields r) in
      let s = span_append (record_fields r) (filling_fields p) in
      let g = zeros_span (gap p) in
      let b = size_bits p in
      record { fits = all_append Fits (record_fields r) (filling_fields p) (record_fits r o) (zeros_fit (gap p)); room = omega arith }

  -- as ready_filling, for a writer over any bytes that have room for the fields and the filling
  pub ready_filling_of : {b : BitWriter} → Ready a (record_fields r ++ filling_fields (span (record_fields r))) → LaidOver a b (record_fields r) → Ready b (filling_fields b.place)
  ready_filling_of {b} h f =
      let e = f.end in
      let p : span (record_fields r) ≡ b.place = omega arith in
      rw p at (ready_next (filling_fields (span (record_fields r))) h f)
