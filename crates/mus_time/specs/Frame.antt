-- `AreRanked` is a proposition.
use Rattle.std.proofs.{Common.{List, [], ◌∷◌}, Props.props}
use Rattle.mus_onsets.specs.{declared.keys.ColumnKey.ColumnKey, Order.BelowAll, Order.Rises, Ranks.AreRanked}

below_prop : (k : ColumnKey) (ks : List ColumnKey) → IsProp (BelowAll k ks)
below_prop k [] = hlevel props
below_prop k (l ∷ ls) = hlevel (props, below_prop k ls)

rise_prop : (ks : List ColumnKey) → IsProp (Rises ks)
rise_prop [] = hlevel props
rise_prop (k ∷ ks) = hlevel (props, below_prop k ks, rise_prop ks)

pub ranked_prop : (keys : List ColumnKey) → IsProp (AreRanked keys)
ranked_prop keys = hlevel (props, rise_prop keys)
