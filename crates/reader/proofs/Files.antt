-- A file is taken exactly when it is the layout of a recording within the limits.
use Rattle.std.proofs.Common.{◌≡◌, ℕ, zero, suc, ◌+◌, ◌*◌, ◌<◌, ◌≤◌, cond, eqb, ltb, List, [], ◌∷◌, ◌++◌, map, length, take, replicate, Ok, Err, Result, sym, refl, ap, ◌∙◌, subst, inl, inr, add-zero, arith, length-take}
use lib.ListN.{length-replicate}
use Rattle.std.specs.List.{flat_map}
use Rattle.std.proofs.lemmas.List.{length-map}
use Rattle.std.proofs.lemmas.List.Elements.{All-from_recursion, recursion_from_All}
use Rattle.std.proofs.lemmas.Bool.{cases_eq, le-ltb}
use Rattle.std.proofs.lemmas.Bool.Decides.{nat_tests}
use Rattle.bits.specs.Bits.{bit_at, spelled}
use Rattle.bits.specs.Told.{told}
use Rattle.bits.specs.declared.told.Place.TheVariants.{AtBit}
use Rattle.bits.specs.declared.told.Told.{Told}
use Rattle.reader.specs.declared.Header.{Header}
use Rattle.recording.specs.declared.record.Event.{Event}
use Rattle.recording.specs.declared.record.Recording.{Recording}
use Rattle.recording.specs.Layout.{bits, span, Laid, header_fields, event_fields, lineup_fields, record_fields, gap, IsFile}
use Rattle.reader.specs.Faults.{read_told}
use Rattle.reader.specs.declared.fault.ReadFault.{ReadFault}
use Rattle.std.specs.Prelude.{MatchResult}
use Rattle.reader.specs.Reading.{Faulty, Gives, Holds, decode, event_at, filling_at, header_at, header_of, lineup_at, many_at, record_of}
use Rattle.recording.specs.Record.{EventOk, Limits, all_entries, lineups_of, max_code, max_events, max_stations, no_event, padded, used_entries, used_events, used_lengths}
use Rattle.reader.proofs.Fields.{field_back, field_within}
use Rattle.reader.proofs.Stands.{Stands, event_back, event_stands, field_stands, lineup_back, lineup_stands, many_back, many_stands, stands_append}
use Rattle.recording.proofs.Ranges.{not_both, ok_parts, same_ok}
use Rattle.recording.proofs.Layouts.{laid_parts, span_append}
use Rattle.recording.proofs.Lineups.{LineupOk, all_flat, all_lengths, all_parts, flat, flat_parts, full_entries, full_events, full_lineups, lengths, lengths_parts, parts_flat, total_lengths}
use Rattle.recording.proofs.Padded.{take_padded}

-- ---- the filling

end_of : (p l q : ℕ) → ◌≡◌ {A = Result ℕ Told} (cond (ltb p l) (Err (told 3 (AtBit p))) (Ok p)) (Ok q) → l ≤ p
end_of p l q h = grind (arith, nat_tests)

one_filler : (b p q : ℕ) (r : Result ℕ Told) → cond (eqb b 0) r (Err (told 3 (AtBit p))) ≡ Ok q → (b ≡ 0) × (r ≡ Ok q)
one_filler b p q r h = (grind (arith, nat_tests), grind (arith, nat_tests))

bits_zero : (bs : List ℕ) (p n q : ℕ) → filling_at bs p n ≡ Ok q → ((k : ℕ) → p ≤ k → k < p + n → bit_at bs k ≡ 0) × (8 * length bs ≤ p + n)
unfolding filling_at
bits_zero bs p zero q h = ((λ k a b. absurd (let z : ⊥ = omega arith in z)), (let l = end_of p (8 * length bs) q h in omega arith))
bits_zero bs p (suc n) q h =
    let a = one_filler (bit_at bs p) p q (filling_at bs (p + 1) n) h in
    let b = bits_zero bs (p + 1) n q a.1 in (
      (λ k c d. elim (cases_eq k p) [ inl e ↦ rw e a.0 | inr ne ↦ b.0 k (omega arith) (omega arith) ]),
      (let l = b.1 in omega arith),
    )

spelled_zero : (bs : List ℕ) (p w : ℕ) → ((k : ℕ) → p ≤ k → k < p + w → bit_at bs k ≡ 0) → spelled bs p w ≡ 0
unfolding spelled
spelled_zero bs p zero h = refl
spelled_zero bs p (suc w) h =
    let a = spelled_zero bs p w (λ k l m. h k l (omega arith)) in
    let b = h (p + w) (omega arith) (omega arith) in
    omega arith

filled : (bs : List ℕ) (p n q : ℕ) → filling_at bs p n ≡ Ok q → (spelled bs p n ≡ 0) × (8 * length bs ≤ p + n)
filled bs p n q h = (spelled_zero bs p n (bits_zero bs p n q h).0, (bits_zero bs p n q h).1)

zero_bits : (bs : List ℕ) (p w : ℕ) → spelled bs p w ≡ 0 → (k : ℕ) → p ≤ k → k < p + w → bit_at bs k ≡ 0
unfolding spelled
zero_bits bs p zero h k a b = absurd (let z : ⊥ = omega arith in z)
zero_bits bs p (suc w) h k a b =
    let e : bit_at bs (p + w) ≡ 0 = omega arith in
    let f : spelled bs p w ≡ 0 = omega arith in
    elim (cases_eq k (p + w)) [ inl q ↦ rw q e | inr ne ↦ zero_bits bs p w f k a (omega arith) ]

filling_back : (bs : List ℕ) (p n : ℕ) → ((k : ℕ) → p ≤ k → k < p + n → bit_at bs k ≡ 0) → 8 * length bs ≡ p + n → filling_at bs p n ≡ Ok (p + n)
unfolding filling_at
filling_back bs p zero h l = let m : 8 * length bs ≤ p = omega arith in rw (le-ltb p (8 * length bs) m, add-zero)
filling_back bs p (suc n) h l =
    let a = h p (omega arith) (omega arith) in
    let q : p + suc n ≡ p + 1 + n = omega arith in
    rw (a, q) (filling_back bs (p + 1) n (λ k b c. h k (omega arith) (omega arith)) (omega arith))

gap_whole : (p n : ℕ) → p ≤ 8 * n → 8 * n ≤ p + gap p → 8 * n ≡ p + gap p
unfolding gap
gap_whole p n h k = omega arith

-- ---- what was taken is the file of a recording within the limits

abbrev HeaderStands : List ℕ → Header × ℕ → Type 0
HeaderStands bs y =
    Stands bs 0 y.1 (bits 4 1 ∷ bits 4 y.0.code ∷ bits 4 y.0.stations ∷ bits 11 y.0.count ∷ [])
    × (y.0.code ≤ max_code) × (1 ≤ y.0.stations) × (y.0.stations ≤ max_stations) × (y.0.count ≤ max_events)

header_stands : (bs : List ℕ) (y : Header × ℕ) → header_at bs 0 ≡ Ok y → HeaderStands bs y
unfolding header_at
header_stands bs y h =
    let a = ok_parts _ _ _ h in
    let b = ok_parts _ _ _ a.2 in
    let c = ok_parts _ _ _ b.2 in
    let d = ok_parts _ _ _ c.2 in
    let wa = field_within _ _ _ _ _ _ _ a.1 in
    let wb = field_within _ _ _ _ _ _ _ b.1 in
    let wc = field_within _ _ _ _ _ _ _ c.1 in
    let wd = field_within _ _ _ _ _ _ _ d.1 in
    let one : a.0.0 ≡ 1 = omega (arith, wa.low, wa.high) in
    subst (λ (x : Header × ℕ). HeaderStands bs x) (same_ok _ _ d.2) (
      rw one at
          (stands_append bs 0 a.0.1 d.0.1 _ _ (field_stands _ _ _ _ _ _ _ a.1)
          (stands_append bs a.0.1 b.0.1 d.0.1 _ _ (field_stands _ _ _ _ _ _ _ b.1)
          (stands_append bs b.0.1 c.0.1 d.0.1 _ _ (field_stands _ _ _ _ _ _ _ c.1) (field_stands _ _ _ _ _ _ _ d.1)))),
      wb.high,
      wc.low,
      wc.high,
      wd.high,
    )

module _ (h : Header) (es : List Event) (ls : List (List ℕ)) (me : length es ≡ h.count) (ml : length ls ≡ h.stations) where
  used_events_lem : used_events (record_of h es ls) ≡ es
  used_events_lem = take_padded max_events no_event es h.count me

  used_lengths_lem : used_lengths (record_of h es ls) ≡ lengths ls
  used_lengths_lem = take_padded max_stations 0 (map (λ l. length l) ls) h.stations (length-map ls (λ l. length l) ∙ ml)

  used_entries_lem : used_entries (record_of h es ls) ≡ flat ls
  used_entries_lem = rw (used_lengths_lem, total_lengths ls) (take_padded all_entries 0 (flat ls) (length (flat ls)) refl)

  used_lineups : lineups_of (record_of h es ls) ≡ ls
  unfolding padded
  used_lineups = rw used_lengths_lem (parts_flat ls _)

module _ (bs : List ℕ) (h : Header) (p1 : ℕ) (es : List Event) (p2 : ℕ) (ls : List (List ℕ)) (p3 q : ℕ)
    (a : header_at bs 0 ≡ Ok (h, p1)) (b : many_at (event_at bs h.stations) h.count p1 ≡ Ok (es, p2))
    (c : many_at (lineup_at bs) h.stations p2 ≡ Ok (ls, p3)) (d : filling_at bs p3 (gap p3) ≡ Ok q) where
  taken : Limits (record_of h es ls) × IsFile bs (record_of h es ls)
  unfolding record_fields
  taken =
      let sh = header_stands bs (h, p1) a in
      let se = many_stands bs (event_at bs h.stations) event_fields (EventOk h.stations) (event_stands bs h.stations sh.2) h.count p1 es p2 sh.0.room b in
      let sl = many_stands bs (lineup_at bs) lineup_fields LineupOk (lineup_stands bs) h.stations p2 ls p3 se.0.room c in
      let ue = used_events_lem h es ls se.2 sl.2 in
      let un = used_lengths_lem h es ls se.2 sl.2 in
      let uc = used_entries_lem h es ls se.2 sl.2 in
      let ul = used_lineups h es ls se.2 sl.2 in
      let all = stands_append bs 0 p1 p3 _ _ sh.0 (stands_append bs p1 p2 p3 _ _ se.0 sl.0) in
      let f = filled bs p3 (gap p3) q d in
      let e : p3 ≡ span (header_fields (record_of h es ls) ++ (flat_map event_fields es ++ flat_map lineup_fields ls)) = omega (arith, all.end) in (
        record {
          fields = record {
            code = sh.1;
            some = sh.2;
            stations = sh.3;
            count = sh.4;
            events = rw ue (All-from_recursion _ _ se.1);
            lengths = rw un (All-from_recursion _ _ (all_lengths ls sl.1));
            entries = rw uc (All-from_recursion _ _ (all_flat ls sl.1));
          };
          rest_events = rw ue;
          rest_lengths = rw un;
          rest_entries = rw uc;
        },
        record {
          fields = rw (ue, ul) all.laid;
          filling = rw (ue, ul, ← e) f.0;
          whole = rw (ue, ul, ← e) (gap_whole p3 (length bs) all.room f.1);
        },
      )

decode_taken : (bs : List ℕ) (r : Recording) → decode bs ≡ Ok r → Limits r × IsFile bs r
unfolding decode
decode_taken bs r h =
    let a = ok_parts _ _ _ h in
    let b = ok_parts _ _ _ a.2 in
    let c = ok_parts _ _ _ b.2 in
    let d = ok_parts _ _ _ c.2 in
    subst (λ (x : Recording). Limits x × IsFile bs x) (same_ok _ _ d.2)
    (taken bs a.0.0 a.0.1 b.0.0 b.0.1 c.0.0 c.0.1 d.0 a.1 b.1 c.1 d.1)

-- ---- and the file of a recording within the limits is taken

header_back : (bs : List ℕ) (r : Recording) → Limits r → Laid bs 0 (header_fields r) → 23 ≤ 8 * length bs
    → header_at bs 0 ≡ Ok (header_of r.code r.stations r.count, 23)
unfolding header_at Laid
header_back bs r o l h =
    let a = field_back bs 0 4 1 1 1 l.0 (omega arith) (omega arith) (omega arith) in
    let b = field_back bs 4 4 0 max_code r.code l.1.0 (omega arith) (omega arith) o.fields.code in
    let c = field_back bs 8 4 1 max_stations r.stations l.1.1.0 (omega arith) o.fields.some o.fields.stations in
    let d = field_back bs 12 11 0 max_events r.count l.1.1.1.0 (omega arith) (omega arith) o.fields.count in
    rw (a, b, c, d)

header_span : (r : Recording) → span (header_fields r) ≡ 23
unfolding span
header_span r = refl

module _ (r : Recording) (o : Limits r) where
  same_record : record_of (header_of r.code r.stations r.count) (used_events r) (lineups_of r) ≡ r
  same_record =
      rw (lengths_parts (used_lengths r) r.entries (full_entries r o), flat_parts (used_lengths r) r.entries, ← o.rest_events, ← o.rest_lengths, ← o.rest_entries)

file_decoded : (bs : List ℕ) (r : Recording) → Limits r → IsFile bs r → decode bs ≡ Ok r
unfolding decode record_fields span
file_decoded bs r o f =
    let es = used_events r in
    let ls = lineups_of r in
    let ev = flat_map event_fields es in
    let lu = flat_map lineup_fields ls in
    let k = laid_parts bs 0 (header_fields r) (ev ++ lu) f.fields in
    let m = laid_parts bs (0 + span (header_fields r)) ev lu k.1 in
    let s = span_append (header_fields r) (ev ++ lu) in
    let t = span_append ev lu in
    let u = header_span r in
    let w = f.whole in
    let z : span (header_fields r ++ (ev ++ lu)) ≡ 23 + span ev + span lu = omega arith in
    let ha = header_back bs r o k.0 (omega arith) in
    let hb = many_back bs (event_at bs r.stations) event_fields (EventOk r.stations) (event_back bs r.stations o.fields.some) es 23 (recursion_from_All _ _ o.fields.events) m.0 (omega arith) in
    let hc = many_back bs (lineup_at bs) lineup_fields LineupOk (lineup_back bs) ls (23 + span ev)
    (all_parts (used_lengths r) r.entries (full_entries r o) (recursion_from_All _ _ o.fields.lengths) (recursion_from_All _ _ o.fields.entries)) m.1 (omega arith) in
    let hd = filling_back bs (23 + span ev + span lu) (gap (23 + span ev + span lu)) (zero_bits bs _ _ (rw z at f.filling)) (rw z at w) in
    let hb' = rw (full_events r o) at hb in
    let hc' = rw (full_lineups r o) at hc in
    rw (ha, hb', hc', hd) (ap (λ (x : Recording). Ok x) (same_record r o))

-- ---- both ways

pub holds : (bs : List ℕ) (r : Recording) → decode bs ≡ Ok r → Holds bs r
holds bs r h =
    let t = decode_taken bs r h in
    record {
      decoded = h;
      limits = t.0;
      file = t.1;
      only = λ x o f. same_ok x r (sym (file_decoded bs x o f) ∙ h);
    }

pub faulty : (bs : List ℕ) (t : Told) → decode bs ≡ Err t → Faulty bs t
faulty bs t h = record { decoded = h; none = λ x o f. not_both x t (sym (file_decoded bs x o f) ∙ h) }

-- what the result of reading a whole file says
pub read_whole : {X : Type 0} (bs : List ℕ) (r : Recording) (result : Result X ReadFault) → Gives (λ (_ : X). r) result (decode bs)
    → MatchResult result (λ _. Holds bs r) (λ e. Faulty bs (read_told e))
read_whole bs r (Ok x) h = holds bs r h
read_whole bs r (Err e) h = faulty bs (read_told e) h

-- ---- a step that no proof here takes any more

slots_length : (evs : List Event) (n : ℕ) → evs ≡ replicate max_events no_event → n ≤ max_events → length (take n evs) ≡ n
slots_length evs n e h = length-take n evs ∙ rw (e, length-replicate) (omega arith)
