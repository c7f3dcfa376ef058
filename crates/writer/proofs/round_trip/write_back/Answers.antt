-- Taken out, the check leaves this goal open.
use Rattle.std.proofs.Common.{sym, ◌∙◌, inl, inr}
use Rattle.std.proofs.lemmas.Result.{MatchResult-weaker}
use Rattle.writer.proofs.Files.{file_size_lem}
use Rattle.writer.proofs.round_trip.write_back.Goals as goal

pub returns : goal.returns
returns c = λ file small h.
    let s = file_size_lem file c.args.recording.now h.file in
    MatchResult-weaker c.write.result c.write.ensures.result
    (λ n w. (w.size ∙ sym s, sym (w.only file small h.file), w.rest))
    (λ e u. elim u.0 [
      | inl o ↦ absurd (o.beyond h.limits)
      | inr l ↦ (rw s l.more, rw s l.tells, u.1)
    ])
