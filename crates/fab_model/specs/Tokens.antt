-- Who went in and came out, by notes (own).
use Rattle.std.specs.Prelude.{◌≡◌, ℕ, List, [], ◌∷◌, ◌++◌, Option, Some, None, ⊤}
use Rattle.ten_parcel.specs.Parcels.{number_of, ticks_of}
use Rattle.fab_lock.specs.declared.entry.Entry.{Entry}
use Rattle.fab_lock.specs.declared.entry.Kind.{Kind}
use Rattle.fab_lock.specs.declared.entry.Kind.TheVariants.{Line, Left}
use Rattle.fab_model.specs.declared.transit.Transit.{Transit}
use Rattle.fab_model.specs.declared.note.Note.{Note}
use Rattle.fab_model.specs.Deeds.{Deed, deed_in, deed_of}

-- a tenant at a tick, with its deed
pub record Token : Type 0 where
  pub tenant : ℕ
  pub tick : ℕ
  pub deed : Deed

abbrev pub token_of : Transit → Token
token_of t = record { tenant = number_of t.parcel; tick = ticks_of t.parcel; deed = deed_of t }

abbrev pub told : Entry → Option Deed → List Token
told e None = []
told e (Some d) = record { tenant = e.tenant; tick = e.from; deed = d } ∷ []

abbrev pub put_at : Kind → Note → List Token
put_at Line n = told n.entry (deed_in n)
put_at k n = []

abbrev pub out_at : Kind → Note → List Token
out_at Left n = told n.entry (deed_in n)
out_at k n = []

-- who was put in line, and who left, in order
abbrev pub puts : List Note → List Token
puts [] = []
puts (n ∷ ns) = put_at n.entry.kind n ++ puts ns

abbrev pub outs : List Note → List Token
outs [] = []
outs (n ∷ ns) = out_at n.entry.kind n ++ outs ns

-- each bears this seat's number
abbrev pub AllBear : ℕ → List Note → Type 0
AllBear k [] = ⊤
AllBear k (n ∷ ns) = (n.entry.seat ≡ k) × AllBear k ns
