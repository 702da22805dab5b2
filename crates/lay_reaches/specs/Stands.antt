-- The reaches of a column in its lanes: a single one is stored inline, and so are three.
use Rattle.std.specs.Prelude.{List, Option, None, replicate, slice_set}
use Rattle.lay_springs.specs.declared.traits.Reach.{Reach}
use Rattle.lay_reaches.specs.declared.stands.Single.{Single}
use Rattle.lay_reaches.specs.declared.stands.ReachStore.{ReachStore}
use Rattle.lay_reaches.specs.declared.stands.LaneReaches.{LaneReaches}

abbrev pub single_held : Single → List (Option Reach)
single_held single = slice_set (replicate single.lanes None) single.lane single.reach

abbrev pub reaches_of : LaneReaches → List (Option Reach)
reaches_of (LaneReaches.Three reaches) = reaches
reaches_of (LaneReaches.Row reaches) = reaches

abbrev pub stored_reaches : ReachStore → List (Option Reach)
stored_reaches (ReachStore.Single single) = single_held single
stored_reaches (ReachStore.Row all) = reaches_of all
