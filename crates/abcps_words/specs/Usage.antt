-- The line that lists the forms of the words. It is reported if the words have none of these forms.
use Rattle.std.specs.Prelude.{ℕ, List, ◌++◌, codes}

unfoldable pub usage_line : List ℕ
usage_line =
    codes "usage: abcps set [--flow] [--jobs N] [--transpose N] [--even] | systems [--flow] [--table] "
    ++ codes "[--transpose N] | inspect | check | make N | trial N [--flow] [--jobs N] [--even] | paint | hear W"
    ++ codes "\n"
