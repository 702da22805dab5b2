-- A bar: a dot or none, colons, an opening bracket or none, one or more bar signs, a closing bracket or none, and
-- colons; or two or more colons alone. This file says which features it has, and how it is read from left to right.
use Prim.Native.Char.{code}
use Rattle.std.specs.Prelude.{ℕ, ◌≤◌, List, Bool, true, false, ◌&&◌, ◌||◌, not, nat_lt, ◌==◌, if◌then◌else◌, Option}
use Rattle.std.specs.Prelude.{Some, None}
use Rattle.{mus_units.specs.declared.note.Bar.{Bar}, abc_notes.specs.Runs.{copies, maybe, run_off, skip}}

-- a bar with bar signs, or colons alone
pub data BarForm : Type 0 where
  signs : (dot : Bool) (before : ℕ) (bracket : Bool) (lines : ℕ) (close : Bool) (after : ℕ) → BarForm
  colons : (n : ℕ) → BarForm

-- its bytes, and the rest after them
abbrev pub spelled : BarForm → List ℕ → List ℕ
spelled (signs dot before bracket lines close after) rest =
    maybe dot (code ".")
    (copies before (code ":")
    (maybe bracket (code "[") (copies lines (code "|") (maybe close (code "]") (copies after (code ":") rest)))))
spelled (colons n) rest = copies n (code ":") rest

abbrev pub IsGoodBar : BarForm → Type 0
IsGoodBar (signs dot before bracket lines close after) = 1 ≤ lines
IsGoodBar (colons n) = 2 ≤ n

-- `[|]` and nothing else
abbrev pub is_alone : Bool → ℕ → Bool → ℕ → Bool → ℕ → Bool
is_alone dot before bracket lines close after = not dot && before == 0 && bracket && lines == 1 && close && after == 0

abbrev pub bar_meant : BarForm → Bar
bar_meant (signs dot before bracket lines close after) =
    let alone = is_alone dot before bracket lines close after in
    record {
      end = nat_lt 0 before;
      start = nat_lt 0 after;
      last = close && not alone;
      initial = bracket && not alone;
      double = nat_lt 1 lines;
      dotted = dot;
      unseen = alone;
    }
bar_meant (colons n) =
    record { end = true; start = true; last = false; initial = false; double = false; dotted = false; unseen = false }

-- reading from left to right
unfoldable pub form_at : List ℕ → Option (BarForm × List ℕ)
form_at bytes =
    let dot = skip (code ".") bytes in let before = run_off (code ":") dot.1 in
    let bracket = skip (code "[") before.1 in
    let lines = run_off (code "|") bracket.1 in
    let close = skip (code "]") lines.1 in
    let after = run_off (code ":") close.1 in
    if lines.0 == 0 then (if dot.0 || nat_lt before.0 2 then None else Some (colons before.0, before.1))
    else Some (signs dot.0 before.0 bracket.0 lines.0 close.0 after.0, after.1)

abbrev pub bar_read : Bar → List ℕ → Bar × List ℕ
bar_read bar rest = (bar, rest)
