-- The alteration of a note, ties aside: its own accidental, else the last one before it that reaches it, else its
-- key's.
use Rattle.std.specs.Prelude.{◌&&◌, List, Option, Some, None, Bool, false, find, reverse, is_some, unwrap_or}
use Rattle.std.specs.Option.{option_map, option_and_then}
use Rattle.std.specs.Ordering.{int_eq}
use Rattle.mus_units.specs.declared.pitch.Alter.{Alter}
use Rattle.mus_units.specs.declared.pitch.Pitch.{Pitch}
use Rattle.mus_units.specs.declared.note.Head.{Head}
use Rattle.mus_units.specs.declared.key.Sign.{Sign}
use Rattle.mus_units.specs.declared.key.Spread.{Spread}
use Rattle.mus_units.specs.Good.{same_letter}
use Rattle.mus_units.specs.declared.pitch.Alter.TheVariants as alters
use Rattle.mus_units.specs.declared.key.Spread.TheVariants as spreads

-- whether an accidental at a pitch reaches another: never, in its own octave, or in every octave
abbrev pub reaches : Spread → Pitch → Pitch → Bool
reaches spreads.Not from to = false
reaches spreads.Octave from to = same_letter from.letter to.letter && int_eq from.octave to.octave
reaches spreads.Pitch from to = same_letter from.letter to.letter

-- the head has an accidental that reaches the pitch
abbrev pub is_said : Spread → Pitch → Head → Bool
is_said spread p head = is_some head.sign && reaches spread head.pitch p

-- the last accidental among earlier heads that reaches the pitch
abbrev pub said_sign : Spread → Pitch → List Head → Option Alter
said_sign spread p said = option_and_then (λ h. h.sign) (find (is_said spread p) (reverse said))

-- the accidental that a key has for the letter
abbrev pub key_sign : Pitch → List Sign → Option Alter
key_sign p signs = option_map (λ s. s.alter) (find (λ s. same_letter s.letter p.letter) signs)

-- the first of these that exists: the note's own accidental, the last that reaches it, the key's, a natural
abbrev pub alteration_of : Pitch → Option Alter → List Head → Spread → List Sign → Alter
alteration_of p (Some own) said spread signs = own
alteration_of p None said spread signs =
    unwrap_or (said_sign spread p said) (unwrap_or (key_sign p signs) alters.Natural)
