-- What is called for: the text for output, the text for errors, and the status when both are written.
use Rattle.std.specs.Prelude.{◌≡◌, ℕ, List, []}
use Rattle.abcps.specs.declared.status.Status.{Status}

pub record Called : Type 0 where
  pub page : List ℕ
  pub reported : List ℕ
  pub status : Status

-- nothing on errors, and everything is done
pub record IsQuietly (c : Called) : Type 0 where
  pub reported : c.reported ≡ []
  pub status : c.status ≡ Status.Done
