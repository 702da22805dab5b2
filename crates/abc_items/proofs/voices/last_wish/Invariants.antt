use Rattle.std.{proofs.Common.◌≡◌, proofs.Common.drop, specs.Option.option_or}
use Rattle.{abc_field.specs.Last.{last_of}, abc_items.specs.Voices.{wish_of_item}}
use Rattle.abc_items.proofs.voices.last_wish.Given as goal

abbrev pub invariant-loop-item : goal.invariant-loop-item
invariant-loop-item l =
    option_or (last_of (wish_of_item l.id) (drop l.item-index l.items)) l.last ≡ last_of (wish_of_item l.id) l.items
