-- The paper: the last good value of each directive counts, and the body is what the margins leave.
use Rattle.std.specs.Prelude.{ℕ, ◌+◌, ◌-◌, ◌*◌, ◌/◌, ◌≤◌, List, Bool, ◌&&◌, nat_le, if◌then◌else◌, codes, Option}
use Rattle.std.specs.Prelude.{unwrap_or}
use Rattle.std.specs.Option.{option_and_then}
use Rattle.abc_lines.specs.declared.book.Line.{Line}
use Rattle.abc_fields.specs.declared.paper.Paper.{Paper}
use Rattle.abc_fields.specs.Defaults.{said_by}
use Rattle.abc_fields.specs.Lengths.{length_of, scale_of}
use Rattle.abc_field.specs.Last.{last_of}

unfoldable pub line_length : List ℕ → Line → Option ℕ
line_length name line = option_and_then length_of (said_by name line.text)

unfoldable pub line_scale : Line → Option ℕ
line_scale line = option_and_then scale_of (said_by (codes "scale") line.text)

unfoldable pub length_in : List ℕ → ℕ → List Line → ℕ
length_in name default lines = unwrap_or (last_of (line_length name) lines) default

unfoldable pub scale_in : List Line → ℕ
scale_in lines = unwrap_or (last_of line_scale lines) 100

abbrev pub default_paper : Paper
default_paper = record { wide = 59500; high = 84200; left = 5100; right = 5100; top = 2800; bottom = 2800; scale = 100 }

-- the paper that the file header states, in hundredths of a point
abbrev pub stated : List Line → Paper
stated lines = record {
  wide = length_in (codes "pagewidth") 59500 lines;
  high = length_in (codes "pageheight") 84200 lines;
  left = length_in (codes "leftmargin") 5100 lines;
  right = length_in (codes "rightmargin") 5100 lines;
  top = length_in (codes "topmargin") 2800 lines;
  bottom = length_in (codes "botmargin") 2800 lines;
  scale = scale_in lines;
}

-- what two margins leave, in units of the scale
abbrev pub left_by : ℕ → ℕ → ℕ → ℕ → ℕ
left_by whole one other scale = (whole - (one + other)) * 100 / scale

abbrev pub body_width : Paper → ℕ
body_width p = left_by p.wide p.left p.right p.scale

abbrev pub body_height : Paper → ℕ
body_height p = left_by p.high p.top p.bottom p.scale

-- if the body is too small, all values are the defaults
abbrev pub is_wide_enough : Paper → Bool
is_wide_enough p = nat_le 10000 (body_width p) && nat_le 10000 (body_height p)

unfoldable pub paper_of : List Line → Paper
paper_of lines = if is_wide_enough (stated lines) then stated lines else default_paper

-- no value above 100000, a scale of 40 to 150, and a body of at least 10000 each way
pub record IsGoodPaper (p : Paper) : Type 0 where
  pub small_wide : p.wide ≤ 100000
  pub small_high : p.high ≤ 100000
  pub small_left : p.left ≤ 100000
  pub small_right : p.right ≤ 100000
  pub small_top : p.top ≤ 100000
  pub small_bottom : p.bottom ≤ 100000
  pub low_scale : 40 ≤ p.scale
  pub high_scale : p.scale ≤ 150
  pub body_wide : 10000 ≤ body_width p
  pub body_high : 10000 ≤ body_height p

-- the same without the body
pub record IsSmallPaper (p : Paper) : Type 0 where
  pub small_wide : p.wide ≤ 100000
  pub small_high : p.high ≤ 100000
  pub small_left : p.left ≤ 100000
  pub small_right : p.right ≤ 100000
  pub small_top : p.top ≤ 100000
  pub small_bottom : p.bottom ≤ 100000
  pub low_scale : 40 ≤ p.scale
  pub high_scale : p.scale ≤ 150
