-- The number and the place of each fault of a recording, and of a report.
use Rattle.bits.specs.declared.told.Place.TheVariants.{AtEntry, AtEvent, Needs}
use Rattle.bits.specs.declared.told.Told.{Told}
use Rattle.bits.specs.Told.{told}
use Rattle.reader.specs.Faults.{read_told}
use Rattle.verdict.specs.declared.fault.JudgeFault.{JudgeFault}
use Rattle.verdict.specs.declared.fault.JudgeFault.TheVariants.{Read, Busy, Unmatched, PostedBefore, DrawnBefore, NeverPosted, StillOpen, NoLane, Foreign, Repeated, Overtaken, NotAdmitted, LaneFull, Missing}
use Rattle.verdict.specs.declared.fault.ReportFault.{ReportFault}
use Rattle.verdict.specs.declared.fault.ReportFault.TheVariants.{Short}

abbrev pub judge_told : JudgeFault → Told
judge_told (Read e) = read_told e
judge_told (Busy event) = told 4 (AtEvent event)
judge_told (Unmatched event) = told 5 (AtEvent event)
judge_told (PostedBefore event) = told 6 (AtEvent event)
judge_told (DrawnBefore event) = told 7 (AtEvent event)
judge_told (NeverPosted event) = told 8 (AtEvent event)
judge_told (StillOpen event) = told 9 (AtEvent event)
judge_told (NoLane station) = told 10 (AtEntry station 0)
judge_told (Foreign station entry) = told 11 (AtEntry station entry)
judge_told (Repeated station entry) = told 12 (AtEntry station entry)
judge_told (Overtaken station entry) = told 13 (AtEntry station entry)
judge_told (NotAdmitted station entry) = told 14 (AtEntry station entry)
judge_told (LaneFull station entry) = told 15 (AtEntry station entry)
judge_told (Missing station length) = told 16 (AtEntry station length)

abbrev pub report_told : ReportFault → Told
report_told (Short needed) = told 17 (Needs needed)
