-- Fields that stand in bytes one after the other.
use Rattle.std.proofs.Common.{◌≡◌, ℕ, ◌+◌, ◌<◌, ◌≤◌, List, [], ◌∷◌, ◌++◌, get_or, sym, ◌∙◌, inl, inr, add-zero, add_assoc, arith, lit≤}
use Rattle.std.proofs.lemmas.Bool.{cases_lt}
use Rattle.bits.specs.Bits.{bit_at}
use Rattle.bits.proofs.Spells.{same_bytes, spelled_inj, spelled_same}
use Rattle.recording.specs.declared.record.EventKind.{EventKind}
use Rattle.recording.specs.declared.record.EventKind.TheVariants.{PostCalled, DrawCalled, PostAnswered, DrawAnswered, DrawEmpty}
use Rattle.recording.specs.declared.record.Recording.{Recording}
use Rattle.recording.specs.Layout.{Field, IsFile, Laid, gap, record_fields, span}
use Rattle.recording.specs.Record.{max_kind, number_of}

pub span_append : (fs gs : List Field) → span (fs ++ gs) ≡ span fs + span gs
unfolding span
span_append [] gs = omega arith
span_append (f ∷ fs) gs = let e = span_append fs gs in omega arith

pub laid_append : (bs : List ℕ) (p : ℕ) (fs gs : List Field) → Laid bs p fs → Laid bs (p + span fs) gs → Laid bs p (fs ++ gs)
unfolding span Laid
laid_append bs p [] gs h k = rw add-zero at k
laid_append bs p (f ∷ fs) gs h k = (h.0, laid_append bs (p + f.width) fs gs h.1 (rw add_assoc k))

pub laid_parts : (bs : List ℕ) (p : ℕ) (fs gs : List Field) → Laid bs p (fs ++ gs) → Laid bs p fs × Laid bs (p + span fs) gs
unfolding span Laid
laid_parts bs p [] gs h = (tt, rw add-zero h)
laid_parts bs p (f ∷ fs) gs h = let k = laid_parts bs (p + f.width) fs gs h.1 in ((h.0, k.0), rw add_assoc at k.1)

-- the fields stay where their bits do
pub laid_same : (bs cs : List ℕ) (p : ℕ) (fs : List Field) → ((k : ℕ) → p ≤ k → k < p + span fs → bit_at cs k ≡ bit_at bs k) → Laid bs p fs → Laid cs p fs
unfolding span Laid
laid_same bs cs p [] h l = tt
laid_same bs cs p (f ∷ fs) h l = (
  spelled_same cs bs p f.width (λ k a b. h k a (omega arith)) ∙ l.0,
  laid_same bs cs (p + f.width) fs (λ k a b. h k (omega arith) (omega arith)) l.1,
)

-- where the same fields stand, the bits are the same
laid_inj : (bs cs : List ℕ) (p : ℕ) (fs : List Field) → Laid bs p fs → Laid cs p fs → (k : ℕ) → p ≤ k → k < p + span fs → bit_at bs k ≡ bit_at cs k
unfolding span Laid
laid_inj bs cs p [] h l k a b = absurd (let z : ⊥ = omega arith in z)
laid_inj bs cs p (f ∷ fs) h l k a b =
    elim (cases_lt k (p + f.width)) [
      | inl q ↦ spelled_inj bs cs p f.width (h.0 ∙ sym l.0) k a q
      | inr q ↦ laid_inj bs cs (p + f.width) fs h.1 l.1 k q (omega arith)
    ]

-- so the file of a recording is the only one
pub same_file : (bs cs : List ℕ) (r : Recording) → ((i : ℕ) → get_or bs i 0 < 256) → ((i : ℕ) → get_or cs i 0 < 256) → IsFile bs r → IsFile cs r → bs ≡ cs
same_file bs cs r hb hc f g =
    let w = f.whole in
    let v = g.whole in
    same_bytes bs cs (omega arith) hb hc (λ k h.
    elim (cases_lt k (span (record_fields r))) [
      | inl q ↦ laid_inj bs cs 0 (record_fields r) f.fields g.fields k (omega arith) (omega arith)
      | inr q ↦ spelled_inj bs cs (span (record_fields r)) (gap (span (record_fields r))) (f.filling ∙ sym g.filling) k q (omega arith)
    ])

-- no kind has a higher number
pub kind_most : (k : EventKind) → number_of k ≤ max_kind
kind_most PostCalled = lit≤ tt
kind_most DrawCalled = lit≤ tt
kind_most PostAnswered = lit≤ tt
kind_most DrawAnswered = lit≤ tt
kind_most DrawEmpty = lit≤ tt
