use Rattle.std.proofs.Common.{ltb, arith}
use Rattle.std.proofs.lemmas.Bool.{lt-ltb}
use Rattle.std.proofs.lemmas.List.{get_or_default}
use Rattle.std.proofs.lemmas.List.Sums.{list_all-from_AllPass}
use Rattle.systems.proofs.listed_system.narrow.Goals as goal

pub returns : goal.returns
returns c = list_all-from_AllPass (λ v. ltb v 65536) c.args._looks.now (λ k d lt. lt-ltb _ _ (omega (arith, c.type_inv._looks k, get_or_default c.args._looks.now k d 0 lt)))
