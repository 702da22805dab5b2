-- The state of a voice is what the music says.
use Rattle.std.proofs.Common.{◌∙◌, sym, ap}
use Rattle.abc_steps.specs.Taking.{still_taken}
use Rattle.abc_steps.specs.Tuplets.{fits}
use Rattle.abc_steps.specs.Written.{IsStateAsWritten}
use Rattle.abc_steps.proofs.Said.{all_in_force}
use Rattle.abc_steps.proofs.Taking.{is_taken, fits_stands, stands_fits}

pub as_written : IsStateAsWritten
as_written = record {
  force = all_in_force;
  taking = is_taken;
  fits =
      λ r before well.
      let taken = ap (fits r) (is_taken before well) in (
        λ fitting. fits_stands r (still_taken before) (sym taken ∙ fitting),
        λ stands. taken ∙ stands_fits r (still_taken before) stands,
      );
}
