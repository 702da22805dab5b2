-- What is written for a verdict: `least`, the tune and its total; or `notleast`, the tune, its total, the least total
-- and the bars of the chosen breaking. Each verdict is one line.
use Prim.Native.Char.{code}
use Rattle.std.specs.Prelude.{ℕ, List, [], ◌∷◌, ◌++◌, codes, decimal}
use Rattle.lay_cert.specs.declared.check.Verdict.{Verdict, TheVariants.Least, TheVariants.NotLeast}

-- each bar after a space
abbrev pub bars_text : List ℕ → List ℕ
bars_text [] = []
bars_text (b ∷ bs) = code " " ∷ decimal b ++ bars_text bs

abbrev pub verdict_text : ℕ → Verdict → List ℕ
verdict_text tune (Least total) = codes "least " ++ decimal tune ++ code " " ∷ decimal total ++ codes "\n"
verdict_text tune (NotLeast total better breaks) =
    codes "notleast " ++ decimal tune ++ code " " ∷ decimal total ++ code " " ∷ decimal better ++ bars_text breaks
    ++ codes "\n"
