use Rattle.std.proofs.Common.{◌≡◌, ◌∙◌, ap, arith, length, rules, subst}
use Rattle.lay_pages.specs.Filling.{AreGoodBlocks}
use Rattle.set_pages.specs.Drawings.{all_blocks}
use Rattle.set_pages.proofs.Joined.{all_loose, pressed_more}
use Rattle.set_pages.proofs.Readying.{all_fit, all_whole}
use Rattle.set_pages.proofs.Stepping.{texts_joined}
use Rattle.set_pages.proofs.Whole.{paper_wide, ready_spots}
use Rattle.set_pages.proofs.builder.add_outcomes.Goals as goal

pub all_blocks-requires : goal.all_blocks-requires
all_blocks-requires c = rw c.as_slice.ensures (all_whole c.args.paper.now _ c.requires.outcomes)

pub place_blocks-requires-clause-fits : goal.place_blocks-requires-clause-fits
place_blocks-requires-clause-fits c =
    let blocks = c.as_slice-2.ensures ∙ c.in_ok-blocks.ensures.value ∙ ap all_blocks c.as_slice.ensures in
    rw (ap (λ p. p.1) c.body_of-high.ensures, blocks) (all_fit c.args.paper.now c.args.outcomes c.requires.outcomes)

pub place_outcomes-requires-clause-whole : goal.place_outcomes-requires-clause-whole
place_outcomes-requires-clause-whole c = all_whole c.args.paper.now _ c.requires.outcomes

pub place_outcomes-requires-clause-ready : goal.place_outcomes-requires-clause-ready
place_outcomes-requires-clause-ready c =
    let value = c.in_ok-blocks.ensures.value ∙ ap all_blocks c.as_slice.ensures in
    let high = ap (λ p. p.1) c.body_of-high.ensures in
    rw c.as_slice-spots.ensures
    (ready_spots c.args.paper.now c.args.outcomes c.in_ok-filled.filled.spots c.requires.paper
    (subst AreGoodBlocks value c.in_ok-blocks.ensures.good) c.requires.outcomes
    (rw (high, c.as_slice-2.ensures ∙ value) at c.in_ok-filled.ensures.within))

pub returns-clause-ready : goal.returns-clause-ready
returns-clause-ready c =
    c.in_ok-placed.ensures.ready _ (paper_wide c.args.paper.now c.requires.paper)

pub returns-clause-adds : goal.returns-clause-adds
returns-clause-adds c before built texts are =
    let high = ap (λ p. p.1) c.body_of-high.ensures in
    let value = c.in_ok-blocks.ensures.value ∙ ap all_blocks c.as_slice.ensures in
    let blocks = c.as_slice-2.ensures ∙ value in
    let parted = c.in_ok-placed.ensures in
    let spots = c.as_slice-spots.ensures in
    let joined = texts_joined _ c.in_ok-placed.placed texts are in
    pressed_more c.args.plan.now c.args.paper.now before c.args.outcomes _ _ c.len.result c.in_ok-filled.filled.spots _
    built c.requires.outcomes
    (rw (high, blocks) at c.in_ok-filled.ensures.spots) (rw spots at (joined.0 ∙ parted.text _))
    (rw spots at c.begun_after-press.ensures.value) c.begun_after-press.ensures.few
    (rw (high, blocks) at c.in_ok-filled.ensures.last_block) (search rules) (search rules)
    (rw spots at (parted.drawn _ joined.1)) (subst AreGoodBlocks value c.in_ok-blocks.ensures.good)

pub returns-clause-open : goal.returns-clause-open
returns-clause-open c =
    let blocks = c.as_slice-2.ensures ∙ c.in_ok-blocks.ensures.value ∙ ap all_blocks c.as_slice.ensures in
    let count : c.len.result ≡ length c.as_slice-2.result.now = search rules in
    record {
      follows = c.in_ok-filled.ensures.follows (rw blocks (all_loose c.args.outcomes));
      pages = omega (arith, count, c.in_ok-filled.ensures.pages);
    }
