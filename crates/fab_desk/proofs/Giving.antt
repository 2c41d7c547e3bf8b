-- What a bay's calls find and leave.
use Rattle.std.proofs.Common.{◌≡◌, ℕ, ◌<◌, false, List, [], ◌∷◌, ◌++◌, map, sym, refl, ap, ◌∙◌, subst, append-nil}
use Rattle.std.proofs.Math.Seq.{drop-append_seam}
use Rattle.std.proofs.lemmas.List.{map-append}
use Rattle.fab_bay.specs.fab_lock.specs.declared.entry.Entry.{Entry}
use Rattle.fab_bay.specs.fab_lock.specs.Facts.{Finds as LockFinds}
use Rattle.fab_bay.specs.fab_lock.specs.Histories.{Adds, Reaches}
use Rattle.fab_bay.specs.fab_lock.specs.Views.{after_give}
use Rattle.fab_bay.specs.fab_model.specs.declared.note.Note.{Note}
use Rattle.fab_bay.specs.fab_model.specs.declared.transit.Transit.{Transit}
use Rattle.fab_bay.specs.fab_model.specs.Histories.{IsLegal}
use Rattle.fab_bay.specs.fab_model.specs.Origins.{AreOwn}
use Rattle.fab_bay.specs.fab_model.specs.Tokens.{puts}
use Rattle.fab_bay.specs.ten_parcel.specs.Parcels.{number_of}
use Rattle.fab_bay.specs.declared.leaving.Found.{Found}
use Rattle.fab_bay.specs.declared.leaving.Found.TheVariants.{Here, Absent, Short}
use Rattle.fab_bay.specs.declared.leaving.Receipt.{Receipt}
use Rattle.fab_bay.specs.declared.leaving.Taken.{Taken}
use Rattle.fab_bay.specs.declared.noted.Label.{Label}
use Rattle.fab_bay.specs.declared.noted.NotedCore.{NotedCore}
use Rattle.fab_bay.specs.Standing.{IsBay}
use Rattle.fab_bay.specs.Taking.{IsTaken, IsFound as IsOutcome}
use Rattle.fab_bay.specs.Ways.{Way, IsPut, Took}
use Rattle.fab_bay.specs.fab_model.specs.Histories.{entry_of}
use Rattle.fab_desk.specs.Desks.{itself, serving, DeskView, Finds, Gives, IsFound}
use Rattle.fab_desk.proofs.Histories.{bears, reaches_notes}

-- a seat finds the history of a bay
pub found_by : (label : Label) (v : DeskView) (x : NotedCore) (words : List ℕ) → IsBay x → AreOwn x.label.origins (puts x.notes.items) → x.label ≡ label → LockFinds entry_of x.notes.items words v → IsFound label v x
found_by label v x words b o e f = record {
  bay = b;
  label_is = e;
  finds = record {
    legal = subst (λ (l : Label). IsLegal l.fabric l.capacity x.notes.items) e b.noted.legal;
    lines = λ h. b.noted.lines (ap (λ (l : Label). l.any_puts) e ∙ h);
    starts = subst (λ (l : Label). AreOwn l.origins (puts x.notes.items)) e o;
    begins = f.begins;
    own = f.own;
    unused = f.unused;
    joined = f.joined;
    known = f.known;
  };
}

-- no note is given
pub gives_none : (tenants number : ℕ) (taken now : List Note) → now ≡ taken → Gives tenants number taken now []
gives_none tenants number taken now e = record { added = []; notes = e ∙ sym (append-nil taken); told = refl; bear = tt; few = tt }

-- the notes of a way
pub gives_goes : (number cycles : ℕ) (x y : NotedCore) (said said' : List Entry) (out left : List Transit) (entries : List Entry) → (g : Way number cycles x y said said' out left) → entries ≡ map (λ n. n.entry) g.added
    → Gives x.label.tenants number x.notes.items y.notes.items entries
gives_goes number cycles x y said said' out left entries g e = record { added = g.added; notes = g.notes; told = e; bear = g.bear; few = g.few }

gives_took : (number : ℕ) (x y : NotedCore) (entries : List Entry) (out : List Transit) → Took number x y entries out → Gives x.label.tenants number x.notes.items y.notes.items entries
gives_took number x y entries out t = gives_goes number t.cycles x y [] entries [] out entries t.goes t.told

gives_found : (number tenant : ℕ) (x y : NotedCore) (t : Taken) (f : Found) → IsOutcome number tenant x y t f → Gives x.label.tenants number x.notes.items y.notes.items t.entries.items
gives_found number tenant x y t (Here out) o = gives_took number x y t.entries.items (out ∷ []) o.1
gives_found number tenant x y t Absent o = subst (Gives x.label.tenants number x.notes.items y.notes.items) (sym o.2) (gives_none x.label.tenants number x.notes.items y.notes.items o.1)
gives_found number tenant x y t Short o = gives_took number x y t.entries.items [] o.1

-- the notes of a tenant that is taken out
pub gives_taken : (number tenant : ℕ) (x y : NotedCore) (t : Taken) → IsTaken number tenant x y t → Gives x.label.tenants number x.notes.items y.notes.items t.entries.items
gives_taken number tenant x y t o = gives_found number tenant x y t t.found o.1

-- ---- what is given

-- the history goes on by notes of the seat
pub adds : (tenants number : ℕ) (taken now : List Note) (entries : List Entry) → Gives tenants number taken now entries → Adds entry_of number taken now
adds tenants number taken now entries g = (g.added, g.notes, bears number g.added g.bear)

-- the words that reach what the entries tell reach the notes
pub reaches_added : (tenants number count : ℕ) (words : List ℕ) (taken now : List Note) (entries : List Entry) → Gives tenants number taken now entries
    → Reaches itself count words (map entry_of taken ++ entries) → Reaches entry_of count words now
reaches_added tenants number count words taken now entries g r = reaches_notes count words now (subst (Reaches itself count words)
    (ap (λ (l : List Entry). map entry_of taken ++ l) g.told ∙ sym (map-append entry_of taken g.added) ∙ ap (map entry_of) (sym g.notes)) r)

-- what the seat knows after it gave the bay back
pub served : (v w : DeskView) (now added : List Note) → w ≡ record v { words = w.words } → now ≡ v.taken ++ added → after_give w now ≡ serving v v.taken added
served v w now added p e = ap (λ (u : DeskView). after_give u now) p ∙ ap (λ (l : List Note). after_give v l) e
    ∙ ap (λ (l : List Note). record v { seen = v.taken ++ added; own = v.own ++ l; holds = false; taken = []; words = [] }) (drop-append_seam v.taken added)
