use Rattle.std.{proofs.Common.{◌∙◌, ◌<◌, ◌^◌, List, length, ap, arith, subst, sym}, specs.List.All}
use Rattle.set_tune.{specs.Blocks.{HasGoodHeight, blocks_of}, proofs.Laid.{few_blocks, good_heights}}
use Rattle.set_tune.proofs.setting.on_pages.Goals as goal

pub blocks_of-requires : goal.blocks_of-requires
blocks_of-requires c =
    subst (λ hs. All HasGoodHeight hs) (sym c.as_slice.ensures)
    (good_heights c.args.laid.score c.args.laid.systems c.args.laid.heights c.requires.laid.1.heights)

pub first_tall-requires-clause-few : goal.first_tall-requires-clause-few
first_tall-requires-clause-few c =
    subst (λ (blocks : List _). length blocks < 2 ^ 32)
    (sym (c.as_slice-2.ensures ∙ c.in_ok-blocks.ensures.value ∙ ap (blocks_of c.args.laid.title) c.as_slice.ensures))
    (omega (arith, few_blocks c.requires.laid.0 c.args.laid c.requires.good c.requires.laid.1))
