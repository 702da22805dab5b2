use Rattle.std.{proofs.Common.{◌<◌, ◌≤◌, length, take, slice_index, arith, ap, ◌∙◌}, specs.Prelude.Some}
use Rattle.abc_words.specs.Verses.{number_on}
use Rattle.abc_words.proofs.FaultLaws.{counted_on, fault_found, faults_on, row_inside}
use Rattle.abc_words.proofs.verses.first_fault.Goals as goal

pub returns-then-number_at-ge8 : goal.returns-then-number_at-ge8
returns-then-number_at-ge8 c =
    let inside : c.loop-verse.verse-index < length c.args.verses.now = omega arith in
    let row : c.verse-item.result.row < c.args.rows = row_inside c.args.verses.now c.args.rows c.loop-verse.verse-index
    c.verse-item.result c.requires inside c.verse-item.is in
    let many : 8 ≤ number_on c.verse-item.result.row (take c.loop-verse.verse-index c.args.verses.now) =
    omega (
      arith,
      c.loop-verse.invariant.counts c.verse-item.result.row row,
      ap (λ ns. slice_index ns c.verse-item.result.row) c.deref.ensures.value,
      c.number_at.ensures,
    ) in
    ap Some c.too_many.ensures
    ∙ fault_found c.args.verses.now c.loop-verse.verse-index c.verse-item.result inside c.verse-item.is many
    c.loop-verse.invariant.faults

pub loop-verse-preserved : goal.loop-verse-preserved
loop-verse-preserved c =
    let inside : c.loop-verse.verse-index < length c.args.verses.now = omega arith in
    let row : c.verse-item.result.row < c.args.rows = row_inside c.args.verses.now c.args.rows c.loop-verse.verse-index
    c.verse-item.result c.requires inside c.verse-item.is in
    let few : number_on c.verse-item.result.row (take c.loop-verse.verse-index c.args.verses.now) < 8 =
    omega (
      arith,
      c.loop-verse.invariant.counts c.verse-item.result.row row,
      ap (λ ns. slice_index ns c.verse-item.result.row) c.deref.ensures.value,
      c.number_at.ensures,
    ) in
    record {
      len = omega arith;
      counts =
          λ k less.
          let inside_too : k < length c.loop-verse.counts.items = omega arith in
          counted_on c.args.verses.now c.loop-verse.verse-index k c.verse-item.result
          (slice_index c.loop-verse.counts.items k) (slice_index c.count_one.new.counts.items k) inside c.verse-item.is
          (c.loop-verse.invariant.counts k less) (c.count_one.ensures.counts k inside_too);
      faults =
          faults_on c.args.verses.now c.loop-verse.verse-index c.verse-item.result inside c.verse-item.is few
          c.loop-verse.invariant.faults;
    }
