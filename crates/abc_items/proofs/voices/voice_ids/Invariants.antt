use Rattle.std.proofs.Common.{◌≡◌, drop, fold}
use Rattle.abc_items.specs.Voices.{ids_after_item, voice_ids}
use Rattle.abc_items.proofs.voices.voice_ids.Given as goal

abbrev pub invariant-loop-item : goal.invariant-loop-item
invariant-loop-item l = fold ids_after_item l.ids (drop l.item-index l.items) ≡ voice_ids l.header l.items
