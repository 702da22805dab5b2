use Rattle.std.proofs.Common.{◌∙◌, codes, lit≤, refl}
use Rattle.{ps_text.specs.Document.{rules_line}, ps_read.proofs.Forms.{rules_numbers, small_number}}
use Rattle.mus_units.specs.Distances.{top_line, fourth_line, third_line, second_line}
use Rattle.ps_read.proofs.lines.scan_rules.Goals as goal

pub returns-clause-right : goal.returns-clause-right
unfolding rules_line
returns-clause-right c w y some wide number e =
    let n = small_number w wide in let zero = small_number 0 (lit≤ tt) in
    let k = c.in_ok-zs.ensures (rules_numbers w y) (codes "sf") (
      n,
      (
        small_number top_line (lit≤ tt),
        (
          n,
          (
            small_number fourth_line (lit≤ tt),
            (
              n,
              (
                small_number third_line (lit≤ tt),
                (n, (small_number second_line (lit≤ tt), (n, (zero, (zero, (number, tt)))))),
              ),
            ),
          ),
        ),
      ),
    ) refl e in
    c.rules_of.ensures.right w y some wide (c.as_slice.ensures ∙ k.0)
