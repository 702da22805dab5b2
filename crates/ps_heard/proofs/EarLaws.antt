-- What a listener remembers after some columns is what these columns determine.
use Rattle.std.proofs.Common.{◌≡◌, refl, sym, ap, ◌∙◌, subst, ℕ, suc, ◌+◌, ◌-◌, ◌<◌, List, [], ◌∷◌, ◌++◌, map, reverse}
use Rattle.std.proofs.Common.{length, drop, drop-cons, get_or, append-nil, append_assoc, arith}
use Rattle.std.proofs.lemmas.Grind.{reverse_onto}
use Rattle.std.specs.List.{flat_map, range_with_len}
use Rattle.mus_units.specs.declared.key.Sign.{Sign}
use Rattle.mus_units.specs.declared.key.Spread.{Spread}
use Rattle.mus_units.specs.declared.note.Head.{Head}
use Rattle.mus_units.specs.declared.pitch.Clef.{Clef}
use Rattle.ps_text.specs.declared.sheet.Staff.{Staff}
use Rattle.ps_heard.specs.declared.column.HeardColumn.{HeardColumn}
use Rattle.ps_heard.specs.declared.column.Listener.{Listener}
use Rattle.ps_heard.specs.declared.column.Heard.{Heard}
use Rattle.ps_heard.specs.declared.column.HeardGlyph.{HeardGlyph}
use Rattle.ps_heard.specs.Ear.{column_closed, fresh, hear_column, hear_columns, hear_from}
use Rattle.ps_heard.specs.Hearing.{heads_heard, clef_heard, head_of_glyph, heads_from, heard_of_glyph, heard_of}
use Rattle.ps_heard.specs.Hearing.{key_heard, last_heads, heard_if_note, said_before, said_with_column, said_with}

abbrev pub ear_with : Clef → List Sign → List Head → List Heard → List Heard → List Heard → Listener
ear_with c k said before here heard =
    record { clef = c; key = record { signs = k }; said = said; before = before; here = here; heard = heard }

-- after some columns, the nearest first
abbrev pub ear_at : Spread → List HeardColumn → Listener
ear_at spread cols =
    ear_with (clef_heard cols) (key_heard cols) (said_before cols) (last_heads spread cols) [] (heads_heard spread cols)

pub walked : (spread : Spread) (col : HeardColumn) (c : Clef) (k : List Sign) (before heard : List Heard)
    (ns : List HeardGlyph) (said : List Head) (here : List Heard)
    → hear_from spread col (ear_with c k said before here heard) ns
    ≡ ear_with c k (said_with_column c col said ns) before (here ++ heads_from spread col c k before said ns) heard
walked spread col c k before heard [] said here = ap (λ h. ear_with c k said before h heard) (sym (append-nil here))
walked spread col c k before heard (n ∷ ns) said here =
    let more = said_with n.role (head_of_glyph c n.dy col.notes) said in
    let one = heard_if_note n.role (heard_of_glyph spread col c k before said n.dy) in
    walked spread col c k before heard ns more (here ++ one)
    ∙ ap (λ h. ear_with c k (said_with_column c col more ns) before h heard)
    (append_assoc here one (heads_from spread col c k before more ns))

column_law : (spread : Spread) (earlier : List HeardColumn) (col : HeardColumn)
    → hear_column spread (ear_at spread earlier) col ≡ ear_at spread (col ∷ earlier)
unfolding hear_column
column_law spread earlier col =
    ap column_closed
    (walked spread col (clef_heard (col ∷ earlier)) (key_heard (col ∷ earlier)) (last_heads spread earlier)
    (heads_heard spread earlier) col.notes (said_before earlier) [])

turned : (col : HeardColumn) (cols earlier : List HeardColumn)
    → reverse (col ∷ cols) ++ earlier ≡ reverse cols ++ (col ∷ earlier)
turned col cols earlier =
    ap (λ t. t ++ earlier) (reverse_onto cols col []) ∙ append_assoc (reverse cols) (col ∷ []) earlier

columns_law : (spread : Spread) (cols earlier : List HeardColumn)
    → hear_columns spread (ear_at spread earlier) cols ≡ ear_at spread (reverse cols ++ earlier)
columns_law spread [] earlier = refl
columns_law spread (col ∷ cols) earlier =
    ap (λ e. hear_columns spread e cols) (column_law spread earlier col)
    ∙ columns_law spread cols (col ∷ earlier)
    ∙ ap (ear_at spread) (sym (turned col cols earlier))

-- the heads that the listener lists are those of the staff
pub heard_law : (spread : Spread) (cols : List HeardColumn)
    → (hear_columns spread fresh cols).heard ≡ heard_of spread cols
unfolding heard_of
heard_law spread cols =
    ap (λ e. e.heard) (columns_law spread cols []) ∙ ap (heads_heard spread) (append-nil (reverse cols))

pub columns_append : (spread : Spread) (ear : Listener) (xs ys : List HeardColumn)
    → hear_columns spread ear (xs ++ ys) ≡ hear_columns spread (hear_columns spread ear xs) ys
columns_append spread ear [] ys = refl
columns_append spread ear (x ∷ xs) ys = columns_append spread (hear_column spread ear x) xs ys

-- one step of the loop over systems
pub system_more : (spread : Spread) (f : List Staff → List HeardColumn) (systems : List (List Staff)) (i : ℕ)
    (s : List Staff) (ear new target : Listener)
    → i < length systems
    → s ≡ get_or systems i s → new ≡ hear_columns spread ear (f s)
    → hear_columns spread ear (flat_map f (drop i systems)) ≡ target
    → hear_columns spread new (flat_map f (drop (i + 1) systems)) ≡ target
system_more spread f systems i s ear new target inside here is before =
    let one : i + 1 ≡ suc i = omega arith in
    let rest = drop (suc i) systems in
    let cut : drop i systems ≡ s ∷ rest = drop-cons systems i s inside ∙ ap (λ l. l ∷ rest) (sym here) in
    rw one (ap (λ e. hear_columns spread e (flat_map f rest)) is
    ∙ sym (columns_append spread ear (f s) (flat_map f rest))
    ∙ ap (λ l. hear_columns spread ear (flat_map f l)) (sym cut) ∙ before)

-- one step of a loop over numbers from 0
pub list_more : {A : Type 0} (f : ℕ → A) (k n : ℕ) (out new target : List A) (v : A)
    → k < n → v ≡ f k → new ≡ out ++ v ∷ []
    → out ++ map f (range_with_len k (n - k)) ≡ target → new ++ map f (range_with_len (k + 1) (n - (k + 1))) ≡ target
list_more f k n out new target v inside is pushed before =
    let rest = map f (range_with_len (k + 1) (n - (k + 1))) in let left : n - k ≡ suc (n - (k + 1)) = omega arith in
    ap (λ t. t ++ rest) pushed
    ∙ append_assoc out (v ∷ []) rest
    ∙ ap (λ w. out ++ (w ∷ rest)) is
    ∙ subst (λ m. out ++ map f (range_with_len k m) ≡ target) left before
