-- What a bank of arrays means.
use Rattle.bank.specs.Model.{Model, Sound}
use Rattle.bank.specs.Rules.{Rule}
use Rattle.kinds.specs.Tables.{deepest}
use Rattle.kinds.specs.declared.array.ArrayBank.{ArrayBank}

-- the lanes hold what the table of lanes holds, the depth is the greatest, and the rule is that of the bank's kind
abbrev pub array_model : {K : Type 0} → (K → Rule) → ArrayBank K → Model
array_model rule b = deepest b.table.lanes.items (rule b.kind)

-- so a bank of arrays is sound, whatever its kind
pub array_sound : {K : Type 0} (rule : K → Rule) (b : ArrayBank K) → Sound (array_model rule b)
array_sound rule b = b.table.sound (rule b.kind)
