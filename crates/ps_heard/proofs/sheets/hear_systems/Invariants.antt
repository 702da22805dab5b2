use Rattle.std.{proofs.Common.◌≡◌, proofs.Common.drop, specs.List.flat_map}
use Rattle.ps_heard.specs.{Ear.hear_columns, Tunes.heard_staff_columns}
use Rattle.ps_heard.proofs.sheets.hear_systems.Given as goal

abbrev pub invariant-loop-system : goal.invariant-loop-system
invariant-loop-system l =
    hear_columns l.spread l.ear (flat_map (heard_staff_columns l.k) (drop l.system-index l.systems))
    ≡ hear_columns l.spread l.fn.ear (flat_map (heard_staff_columns l.k) l.systems)
