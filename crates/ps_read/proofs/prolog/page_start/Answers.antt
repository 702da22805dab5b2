use Rattle.{std.proofs.Common.{arith}, ps_read.proofs.Stepping.{on_page_start}}
use Rattle.ps_read.proofs.prolog.page_start.Goals as goal

pub returns : goal.returns
returns c =
    let l40 = c.if-scale-lt40.false in let l150 = c.if-scale-gt150.false in let small = c.in-Some.ensures.small in
    on_page_start c.args.wide c.args.high c.in-Some.left c.in-Some.bottom c.in-Some.scale c.args.raw.now
    c.in_ok-rest.rest
    (c.in_ok-is_page_line.ensures.0 c.if-not-branch.false)
    (record {
      wide = omega (arith, c.ranges.wide.fits);
      high = omega (arith, c.ranges.high.fits);
      left = small.0;
      bottom = small.1;
      least_scale = omega (arith, l40);
      greatest_scale = omega (arith, l150);
    })
    (λ x y z lx ly lz e. c.in-Some.ensures.reported x y z lx ly lz e)
    c.in_ok-rest.ensures
