-- What calls do, one after another.
use Rattle.std.proofs.Common.{◌≡◌, ℕ, Bool, ◌+◌, ◌<◌, List, [], ◌∷◌, ◌++◌, refl, sym, ap, ◌∙◌, subst}
use Rattle.std.proofs.lemmas.List.{append-nil}
use Rattle.fab_core.specs.fab_model.specs.Points.{Point}
use Rattle.fab_core.specs.fab_model.specs.Fabrics.{Fabric}
use Rattle.fab_core.specs.fab_model.specs.Worlds.{happens, Event}
use Rattle.fab_core.specs.fab_model.specs.declared.note.Note.{Note}
use Rattle.fab_core.specs.fab_model.specs.declared.transit.Transit.{Transit}
use Rattle.fab_core.specs.fab_model.specs.Tokens.{outs, puts}
use Rattle.fab_bay.specs.declared.noted.NotedCore.{NotedCore}
use Rattle.fab_bay.specs.Marks.{all_called_for, marks}
use Rattle.fab_bay.specs.Standing.{IsNoted}
use Rattle.fab_bay.specs.Ways.{cycles_in, tokens, AreInOrder, AreOut, Goes, Path, Settles}
use Rattle.fab_bay.proofs.Going.{andThen}

-- ---- ways

-- one behind another
pub goes-then : {b : Bool} (k c d : ℕ) (x y z : NotedCore) (out out' last : List Transit) → Path b k c x y x.told.items y.told.items out out' → Path b k d y z y.told.items z.told.items out' last
    → Path b k (c + d) x z x.told.items z.told.items out last
goes-then k c d x y z out out' last g h = andThen k c d (c + d) x y z x.told.items y.told.items z.told.items out out' last g h refl

-- nothing is written and one event happens to the fabric alone, or none
pub record Changes (x y : NotedCore) : Type 0 where
  pub label : y.label ≡ x.label
  pub notes : y.notes.items ≡ x.notes.items
  pub told : y.told.items ≡ x.told.items

pub goes-none : {b : Bool} (k : ℕ) (x y : NotedCore) (out : List Transit) → Changes x y → ((f : Fabric) → IsNoted x f → IsNoted y f) → Path b k 0 x y x.told.items y.told.items out out
goes-none k x y out h go = record {
  label = h.label;
  added = [];
  notes = h.notes ∙ sym (append-nil x.notes.items);
  told = h.told ∙ sym (append-nil x.told.items);
  bear = tt;
  few = tt;
  puts = refl;
  outs = sym (append-nil (tokens out));
  events = [];
  count = refl;
  leads = λ f ps noted ao. (go f noted, ao);
  ordered = λ f ps noted ao. tt;
  marks_are = λ f ps noted ao. refl;
  runs = λ h. tt;
}

pub goes-event : (k c : ℕ) (x y : NotedCore) (out : List Transit) (e : Event) → Changes x y → cycles_in (e ∷ []) ≡ c
    → ((f : Fabric) (ps : List Point) → IsNoted x f → IsNoted y (happens (record { fabric = f; transit = ps }) e).fabric × ((happens (record { fabric = f; transit = ps }) e).transit ≡ ps))
    → ((f : Fabric) (ps : List Point) → IsNoted x f → AreInOrder (e ∷ []) (record { fabric = f; transit = ps }))
    → ((f : Fabric) (ps : List Point) → IsNoted x f → [] ≡ all_called_for (e ∷ []) (record { fabric = f; transit = ps })) → Goes k c x y out out
goes-event k c x y out e h count go may calls = record {
  label = h.label;
  added = [];
  notes = h.notes ∙ sym (append-nil x.notes.items);
  told = h.told ∙ sym (append-nil x.told.items);
  bear = tt;
  few = tt;
  puts = refl;
  outs = sym (append-nil (tokens out));
  events = e ∷ [];
  count = count;
  leads = λ f ps noted ao. let g = go f ps noted in (g.0, subst (AreOut out) (sym g.1) ao);
  ordered = λ f ps noted ao. may f ps noted;
  marks_are = λ f ps noted ao. calls f ps noted;
  runs = λ h. tt;
}

-- one note is written of a run, and nothing happens
pub goes-note : (k : ℕ) (x y : NotedCore) (out : List Transit) (n : Note) → y.label ≡ x.label → y.notes.items ≡ x.notes.items ++ n ∷ [] → y.told.items ≡ x.told.items ++ n.entry ∷ [] → n.entry.seat ≡ k
    → n.entry.tenant < x.label.tenants → puts (n ∷ []) ≡ [] → outs (n ∷ []) ≡ [] → marks (n ∷ []) ≡ [] → ((f : Fabric) → IsNoted x f → IsNoted y f) → Settles k x y out
goes-note k x y out n label notes told bear few puts outs marks go = record {
  label = label;
  added = n ∷ [];
  notes = notes;
  told = told;
  bear = (bear, tt);
  few = (few, tt);
  puts = puts;
  outs = sym (append-nil (tokens out)) ∙ ap (λ l. tokens out ++ l) (sym outs);
  events = [];
  count = refl;
  leads = λ f ps noted ao. (go f noted, ao);
  ordered = λ f ps noted ao. tt;
  marks_are = λ f ps noted ao. marks;
  runs = λ h. let z : ⊥ = cc in absurd z;
}
