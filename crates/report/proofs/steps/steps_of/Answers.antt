use Rattle.std.proofs.Common.{rules}
use mathlib.Core.List.{map-map}
use Rattle.report.proofs.steps.steps_of.Goals as goal

pub returns : goal.returns
returns c = search (rules, map-map)
