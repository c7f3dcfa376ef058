-- What was read stands in the bytes, and what stands there is read.
use Rattle.std.proofs.Common.{◌≡◌, ℕ, zero, suc, ◌+◌, ◌-◌, ◌*◌, ◌<◌, ◌≤◌, Bool, true, false, cond, List, [], ◌∷◌, ◌++◌, length, Ok, sym, refl, ap, subst, add-zero, add_assoc, arith, lit≤}
use Rattle.std.specs.List.{AllByRecursion, flat_map}
use Rattle.std.proofs.lemmas.Bool.{both_ways}
use Rattle.recording.specs.declared.record.Event.{Event}
use Rattle.recording.specs.declared.record.EventKind.{EventKind}
use Rattle.recording.specs.declared.record.EventKind.TheVariants.{PostCalled, DrawCalled, PostAnswered, DrawAnswered, DrawEmpty}
use Rattle.recording.specs.Layout.{Field, bits, span, Laid, event_fields, entry_fields, lineup_fields}
use Rattle.recording.specs.Ranges.{and_then}
use Rattle.recording.specs.Record.{EventOk, carries, number_of, event, max_call, max_entries, max_order}
use Rattle.recording.proofs.Layouts.{kind_most, laid_append, laid_parts, span_append}
use Rattle.recording.proofs.Lineups.{LineupOk}
use Rattle.recording.proofs.Ranges.{ok_parts, same_ok}
use Rattle.reader.specs.Reading.{Reading, entry_at, event_at, field_at, kind_of, lineup_at, many_at}
use Rattle.reader.proofs.Fields.{field_back, field_within}

-- the fields fs stand from bit p up to bit q
pub record Stands (bs : List ℕ) (p q : ℕ) (fs : List Field) : Type 0 where
  pub laid : Laid bs p fs
  pub end : q ≡ p + span fs
  pub room : q ≤ 8 * length bs

stands_none : (bs : List ℕ) (p : ℕ) → p ≤ 8 * length bs → Stands bs p p []
unfolding span Laid
stands_none bs p h = record { laid = tt; end = sym (add-zero p); room = h }

pub stands_append : (bs : List ℕ) (p q r : ℕ) (fs gs : List Field) → Stands bs p q fs → Stands bs q r gs → Stands bs p r (fs ++ gs)
stands_append bs p q r fs gs f g =
    let e = f.end in
    let s = span_append fs gs in
    record {
      laid = laid_append bs p fs gs f.laid (rw e at g.laid);
      end = omega (arith, g.end);
      room = g.room;
    }

-- ---- a field

pub field_stands : (bs : List ℕ) (p w lo hi v q : ℕ) → field_at bs p w lo hi ≡ Ok (v, q) → Stands bs p q (bits w v ∷ [])
unfolding span Laid
field_stands bs p w lo hi v q h =
    let a = field_within bs p w lo hi v q h in
    record { laid = (sym a.spells, tt); end = omega (arith, a.end); room = a.room }

-- ---- many items

module _ {A : Type 0} (bs : List ℕ) (item : ℕ → Reading A) (fields : A → List Field) (Good : A → Type 0) where
  module _ (one : (p : ℕ) (x : A) (q : ℕ) → item p ≡ Ok (x, q) → Stands bs p q (fields x) × Good x) where
    pub many_stands : (n p : ℕ) (xs : List A) (q : ℕ) → p ≤ 8 * length bs → many_at item n p ≡ Ok (xs, q)
        → Stands bs p q (flat_map fields xs) × AllByRecursion Good xs × (length xs ≡ n)
    unfolding many_at
    many_stands zero p xs q r h =
        subst (λ (y : List A × ℕ). Stands bs p y.1 (flat_map fields y.0) × AllByRecursion Good y.0 × (length y.0 ≡ 0))
        (same_ok _ _ h) (stands_none bs p r, tt, refl)
    many_stands (suc n) p xs q r h =
        let a = ok_parts _ _ _ h in
        let b = ok_parts _ _ _ a.2 in
        let x = one p a.0.0 a.0.1 a.1 in
        let m = many_stands n a.0.1 b.0.0 b.0.1 x.0.room b.1 in
        subst (λ (y : List A × ℕ). Stands bs p y.1 (flat_map fields y.0) × AllByRecursion Good y.0 × (length y.0 ≡ suc n))
        (same_ok _ _ b.2)
        (stands_append bs p a.0.1 b.0.1 _ _ x.0 m.0, (x.1, m.1), ap suc m.2)

  module _ (one : (p : ℕ) (x : A) → Good x → Laid bs p (fields x) → p + span (fields x) ≤ 8 * length bs → item p ≡ Ok (x, p + span (fields x))) where
    pub many_back : (xs : List A) (p : ℕ) → AllByRecursion Good xs → Laid bs p (flat_map fields xs) → p + span (flat_map fields xs) ≤ 8 * length bs
        → many_at item (length xs) p ≡ Ok (xs, p + span (flat_map fields xs))
    unfolding many_at span
    many_back [] p g l r = rw add-zero
    many_back (x ∷ xs) p g l r =
        let s = span_append (fields x) (flat_map fields xs) in
        let k = laid_parts bs p (fields x) (flat_map fields xs) l in
        let h = one p x g.0 k.0 (omega arith) in
        let m = many_back xs (p + span (fields x)) g.1 k.1 (omega arith) in
        rw (h, m, s, add_assoc)

-- ---- an event

pub kind_code : (k : EventKind) → kind_of (number_of k) ≡ k
unfolding kind_of
kind_code PostCalled = refl
kind_code DrawCalled = refl
kind_code PostAnswered = refl
kind_code DrawAnswered = refl
kind_code DrawEmpty = refl

code_kind : (n : ℕ) → n ≤ 4 → number_of (kind_of n) ≡ n
unfolding kind_of
code_kind zero h = refl
code_kind (suc zero) h = refl
code_kind (suc (suc zero)) h = refl
code_kind (suc (suc (suc zero))) h = refl
code_kind (suc (suc (suc (suc zero)))) h = refl
code_kind (suc (suc (suc (suc (suc n))))) h = absurd (let z : ⊥ = omega arith in z)

abbrev EventStands : List ℕ → ℕ → ℕ → Event × ℕ → Type 0
EventStands bs st p y = Stands bs p y.1 (event_fields y.0) × EventOk st y.0

module _ (bs : List ℕ) (st p k p1 s p2 : ℕ) (some : 1 ≤ st)
    (a : field_at bs p 3 0 4 ≡ Ok (k, p1)) (b : field_at bs p1 3 0 (st - 1) ≡ Ok (s, p2)) where
  two : Stands bs p p2 (bits 3 k ∷ bits 3 s ∷ [])
  two = stands_append bs p p1 p2 _ _ (field_stands _ _ _ _ _ _ _ a) (field_stands _ _ _ _ _ _ _ b)

  below : s < st
  below = omega (arith, (field_within _ _ _ _ _ _ _ b).high)

  code : number_of (kind_of k) ≡ k
  code = code_kind k (field_within _ _ _ _ _ _ _ a).high

  carrying : (o q : ℕ) → carries (kind_of k) ≡ true → field_at bs p2 12 0 max_order ≡ Ok (o, q) → EventStands bs st p (event (kind_of k) s o, q)
  unfolding event_fields
  carrying o q y d = (
    rw (y, code) (stands_append bs p p2 q _ _ two (field_stands _ _ _ _ _ _ _ d)),
    record { station = below; order = (field_within _ _ _ _ _ _ _ d).high; uncarried = λ f. absurd (both_ways (carries (kind_of k)) f y) },
  )

  bare : carries (kind_of k) ≡ false → EventStands bs st p (event (kind_of k) s 0, p2)
  unfolding event_fields
  bare y = (rw (y, code) two, record { station = below; order = lit≤ tt; uncarried = λ f. refl })

  either : (e : Event × ℕ) (c : Bool) → carries (kind_of k) ≡ c
      → cond c (and_then (field_at bs p2 12 0 max_order) (λ o. Ok (event (kind_of k) s o.0, o.1))) (Ok (event (kind_of k) s 0, p2)) ≡ Ok e → EventStands bs st p e
  either e true y h =
      let d = ok_parts _ _ _ h in
      subst (λ (x : Event × ℕ). EventStands bs st p x) (same_ok _ _ d.2) (carrying d.0.0 d.0.1 y d.1)
  either e false y h = subst (λ (x : Event × ℕ). EventStands bs st p x) (same_ok _ _ h) (bare y)

pub event_stands : (bs : List ℕ) (st : ℕ) → 1 ≤ st → (p : ℕ) (e : Event) (q : ℕ) → event_at bs st p ≡ Ok (e, q) → Stands bs p q (event_fields e) × EventOk st e
unfolding event_at
event_stands bs st some p e q h =
    let a = ok_parts _ _ _ h in
    let b = ok_parts _ _ _ a.2 in
    either bs st p a.0.0 a.0.1 b.0.0 b.0.1 some a.1 b.1 (e, q) (carries (kind_of a.0.0)) refl b.2

pub event_back : (bs : List ℕ) (st : ℕ) → 1 ≤ st → (p : ℕ) (e : Event) → EventOk st e → Laid bs p (event_fields e)
    → p + span (event_fields e) ≤ 8 * length bs → event_at bs st p ≡ Ok (e, p + span (event_fields e))
unfolding event_at event_fields Laid span
event_back bs st some p e o l r =
    let k = kind_code e.kind in
    let a = field_back bs p 3 0 4 (number_of e.kind) l.0 (omega arith) (omega arith) (kind_most e.kind) in
    let b = field_back bs (p + 3) 3 0 (st - 1) e.station l.1.0 (omega arith) (omega arith) (omega (arith, o.station)) in
    rw (a, b, k) (by_case (carries e.kind) refl)
  where
    by_case : (c : Bool) → carries e.kind ≡ c
        → cond c (and_then {Y = Event × ℕ} (field_at bs (p + 3 + 3) 12 0 max_order) (λ x. Ok (event e.kind e.station x.0, x.1))) (Ok (event e.kind e.station 0, p + 3 + 3))
        ≡ Ok (e, p + span (event_fields e))
    by_case true y =
        let l' = rw y at l in
        let r' = rw y at r in
        let d = field_back bs (p + 3 + 3) 12 0 max_order e.order l'.1.1.0 (omega arith) (omega arith) o.order in
        let q : p + (3 + (3 + (12 + 0))) ≡ p + 3 + 3 + 12 = omega arith in
        rw (y, d, q)
    by_case false y =
        let z = o.uncarried y in
        let q : p + (3 + (3 + 0)) ≡ p + 3 + 3 = omega arith in
        rw (y, q) (ap (λ (x : ℕ). Ok (event e.kind e.station x, p + 3 + 3)) (sym z))

-- ---- a line-up

entry_stands : (bs : List ℕ) (p v q : ℕ) → entry_at bs p ≡ Ok (v, q) → Stands bs p q (entry_fields v) × (v ≤ max_call)
entry_stands bs p v q h = (field_stands _ _ _ _ _ _ _ h, (field_within _ _ _ _ _ _ _ h).high)

pub lineup_stands : (bs : List ℕ) (p : ℕ) (l : List ℕ) (q : ℕ) → lineup_at bs p ≡ Ok (l, q) → Stands bs p q (lineup_fields l) × LineupOk l
unfolding lineup_at lineup_fields
lineup_stands bs p l q h =
    let a = ok_parts _ _ _ h in
    let n = field_within _ _ _ _ _ _ _ a.1 in
    let m = many_stands bs (entry_at bs) entry_fields (λ c. c ≤ max_call) (entry_stands bs) a.0.0 a.0.1 l q n.room a.2 in
    let f = field_stands _ _ _ _ _ _ _ a.1 in (
      rw m.2 (stands_append bs p a.0.1 q _ _ f m.0),
      (omega (arith, n.high, m.2), m.1),
    )

entry_back : (bs : List ℕ) (p v : ℕ) → v ≤ max_call → Laid bs p (entry_fields v) → p + span (entry_fields v) ≤ 8 * length bs → entry_at bs p ≡ Ok (v, p + span (entry_fields v))
unfolding Laid span
entry_back bs p v h l r = field_back bs p 9 0 max_call v l.0 (omega arith) (omega arith) h

pub lineup_back : (bs : List ℕ) (p : ℕ) (l : List ℕ) → LineupOk l → Laid bs p (lineup_fields l) → p + span (lineup_fields l) ≤ 8 * length bs
    → lineup_at bs p ≡ Ok (l, p + span (lineup_fields l))
unfolding lineup_at lineup_fields Laid span
lineup_back bs p l o h r =
    let a = field_back bs p 10 0 max_entries (length l) h.0 (omega arith) (omega arith) o.0 in
    let m = many_back bs (entry_at bs) entry_fields (λ c. c ≤ max_call) (entry_back bs) l (p + 10) o.1 h.1 (omega arith) in
    rw (a, m, add_assoc)
