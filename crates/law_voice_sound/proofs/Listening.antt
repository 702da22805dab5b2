-- A listener hears only what matters in columns.
use Rattle.std.proofs.Common.{◌≡◌, refl, sym, ap, ◌∙◌, ℤ, Bool, true, false, ◌||◌, List, [], ◌∷◌, ◌++◌, append-nil}
use Rattle.std.proofs.lemmas.Bool.{false≢true, or_parts}
use Rattle.std.specs.Prelude.{if◌then◌else◌}
use Rattle.std.specs.List.{list_any}
use Rattle.mus_units.specs.declared.key.Spread.{Spread}
use Rattle.law_voice_sound.specs.Listened.{has_notes, is_listed, is_reported, plain, columns_heard}
use Rattle.ps_heard.specs.declared.column.HeardColumn.{HeardColumn}
use Rattle.ps_heard.specs.declared.column.Listener.{Listener}
use Rattle.ps_heard.specs.declared.column.Heard.{Heard}
use Rattle.ps_heard.specs.declared.column.HeardGlyph.{HeardGlyph}
use Rattle.ps_heard.specs.declared.column.Role.{Role}
use Rattle.ps_heard.specs.Ear.{column_closed, fresh, hear_column, hear_columns, hear_from, hear_one, column_opened}
use Rattle.ps_heard.specs.Hearing.{heard_of, last_or}
use Rattle.ps_heard.proofs.EarLaws.{heard_law}

pub known_join : (xs ys : List HeardColumn) → columns_heard (xs ++ ys) ≡ columns_heard xs ++ columns_heard ys
known_join [] ys = refl
known_join (x ∷ xs) ys =
    elim (is_reported x) as (λ b.
    (if b then plain x ∷ columns_heard (xs ++ ys) else columns_heard (xs ++ ys))
    ≡ (if b then plain x ∷ columns_heard xs else columns_heard xs) ++ columns_heard ys)
    [ true ↦ ap (λ t. plain x ∷ t) (known_join xs ys) | false ↦ known_join xs ys ]

-- a column without notes leaves the listener's state as it is
pub nothing_known : (spread : Spread) (ear : Listener) (ties : List ℤ)
    → ear.here ≡ [] → hear_column spread ear (record { leads = false; notes = []; ties = ties }) ≡ ear
unfolding hear_column
nothing_known spread ear ties e =
    ap (λ (h : List Heard). record ear { before = last_or ear.before h; here = []; heard = ear.heard ++ h }) e
    ∙ ap (λ (t : List Heard). record ear { here = []; heard = t }) (append-nil ear.heard)
    ∙ ap (λ (h : List Heard). record ear { here = h }) (sym e)

-- ties matter only if a head is listed
abbrev sounds : List HeardGlyph → Bool
sounds ns = list_any (λ n. is_listed n.role) ns

abbrev column : Bool → List HeardGlyph → List ℤ → HeardColumn
column leads notes ties = record { leads = leads; notes = notes; ties = ties }

one_same : (spread : Spread) (leads : Bool) (notes : List HeardGlyph) (a b : List ℤ) (ear : Listener) (role : Role)
    (dy : ℤ)
    → is_listed role ≡ false
    → hear_one spread (column leads notes a) ear (record { role = role; dy = dy })
    ≡ hear_one spread (column leads notes b) ear (record { role = role; dy = dy })
one_same spread leads notes a b ear Role.Head dy e = absurd (false≢true (sym e))
one_same spread leads notes a b ear _ dy e = refl

walk_same : (spread : Spread) (leads : Bool) (notes : List HeardGlyph) (a b : List ℤ) (ear : Listener)
    (ns : List HeardGlyph)
    → sounds ns ≡ false
    → hear_from spread (column leads notes a) ear ns ≡ hear_from spread (column leads notes b) ear ns
walk_same spread leads notes a b ear [] e = refl
walk_same spread leads notes a b ear (n ∷ ns) e =
    let none = or_parts (is_listed n.role) (sounds ns) e in
    ap (λ x. hear_from spread (column leads notes a) x ns) (one_same spread leads notes a b ear n.role n.dy none.0)
    ∙ walk_same spread leads notes a b (hear_one spread (column leads notes b) ear n) ns none.1

plain_same : (spread : Spread) (leads : Bool) (notes : List HeardGlyph) (ties : List ℤ) (ear : Listener) (b : Bool)
    → sounds notes ≡ b
    → hear_column spread ear (column leads notes (if b then ties else []))
    ≡ hear_column spread ear (column leads notes ties)
unfolding hear_column
plain_same spread leads notes ties ear true e = refl
plain_same spread leads notes ties ear false e =
    ap column_closed (walk_same spread leads notes [] ties (column_opened ear (column leads notes ties)) notes e)

known_more : (spread : Spread) (ear : Listener) (leads : Bool) (notes : List HeardGlyph) (ties : List ℤ)
    (cols : List HeardColumn) (last : Listener)
    → ear.here ≡ []
    → hear_columns spread (hear_column spread ear (column leads notes ties)) (columns_heard cols) ≡ last
    → hear_columns spread ear
    (if leads || has_notes notes then plain (column leads notes ties) ∷ columns_heard cols else columns_heard cols)
    ≡ last
known_more spread ear true notes ties cols last e more =
    ap (λ x. hear_columns spread x (columns_heard cols)) (plain_same spread true notes ties ear (sounds notes) refl)
    ∙ more
known_more spread ear false [] ties cols last e more =
    ap (λ x. hear_columns spread x (columns_heard cols)) (sym (nothing_known spread ear ties e)) ∙ more
known_more spread ear false (n ∷ ns) ties cols last e more =
    ap (λ x. hear_columns spread x (columns_heard cols))
    (plain_same spread false (n ∷ ns) ties ear (sounds (n ∷ ns)) refl)
    ∙ more

all_known : (spread : Spread) (ear : Listener) (cols : List HeardColumn)
    → ear.here ≡ [] → hear_columns spread ear (columns_heard cols) ≡ hear_columns spread ear cols
unfolding hear_column
all_known spread ear [] e = refl
all_known spread ear (col ∷ cols) e =
    known_more spread ear col.leads col.notes col.ties cols (hear_columns spread (hear_column spread ear col) cols) e
    (all_known spread (hear_column spread ear col) cols refl)

pub heard_known : (spread : Spread) (cols : List HeardColumn)
    → heard_of spread (columns_heard cols) ≡ heard_of spread cols
heard_known spread cols =
    sym (heard_law spread (columns_heard cols))
    ∙ ap (λ ear. ear.heard) (all_known spread fresh cols refl)
    ∙ heard_law spread cols
