-- The bays of the fabrics of a script.
use Rattle.std.proofs.Common.{◌≡◌, ℕ, suc, ◌<◌, ◌≤◌, List, [], ◌∷◌, length, get_or, map, sym, ap, ◌∙◌, subst, arith, Some, None}
use Rattle.std.specs.List.{AllByRecursion}
use Rattle.std.proofs.lemmas.List.{get_or-map, length-map}
use Rattle.std.proofs.lemmas.Option.{slice_get_within}
use Rattle.host_text.specs.declared.script.FabricLine.{FabricLine}
use Rattle.host_text.specs.declared.script.Script.{Script}
use Rattle.host_report.specs.fab_model.specs.declared.note.Note.{Note}
use Rattle.host_report.specs.fab_model.specs.Histories.{IsLegal}
use Rattle.host_report.specs.fab_model.specs.Origins.{Origins}
use Rattle.host_report.specs.fab_model.proofs.Owns.{all_named, IsNamed}
use Rattle.fab_rounds.specs.ten_parcel.specs.Parcels.{origin_in}
use Rattle.fab_rounds.specs.fab_bay.specs.declared.noted.Label.{Label}
use Rattle.fab_rounds.specs.fab_bay.specs.declared.noted.NotedCore.{NotedCore}
use Rattle.fab_rounds.specs.fab_bay.specs.Ways.{AreBelow}
use Rattle.fab_rounds.specs.fab_orders.specs.declared.outcomes.Order.{Order}
use Rattle.fab_rounds.specs.fab_orders.specs.declared.outcomes.Outcome.{Outcome}
use Rattle.fab_rounds.specs.fab_orders.specs.declared.outcomes.Start.{Start}
use Rattle.fab_rounds.specs.fab_orders.specs.Outcomes.{IsClosed, IsOutcome}
use Rattle.fab_rounds.specs.fab_orders.specs.Starts.{AreLabels, NamesOrigins}
use Rattle.host_run.specs.Rooms.{room_of, HaveRoom}
use Rattle.host_run.specs.Reported.{AreBays}

-- what holds at each place holds of each
pub all_each : {X : Type 0} (P : X → Type 0) (xs : List X) → ((i : ℕ) (d : X) → i < length xs → P (get_or xs i d)) → AllByRecursion P xs
all_each P [] f = tt
all_each P (x ∷ xs) f = (f 0 x (omega arith), all_each P xs (λ i d l. f (suc i) d (omega (arith, l))))

-- ---- of whom histories tell

-- of tenants that something is named for, which are those that run
named-below : (starts : List Start) (all : Origins) → NamesOrigins starts all → (notes : List Note) → AllByRecursion (IsNamed all) notes → AreBelow (length starts) notes
named-below starts None names notes n = absurd names
named-below starts (Some all) names [] n = tt
named-below starts (Some all) names (x ∷ xs) n =
    let there = slice_get_within all.value.items x.entry.tenant n.0.0 n.0.1 in
    (omega (arith, there, ap length names, length-map starts (λ (s : Start). origin_in s.transit.parcel)), named-below starts (Some all) names xs n.1)

those-below : (starts : List Start) (l : Label) (b : NotedCore) → NamesOrigins starts l.origins → IsClosed l b → AreBelow (length starts) b.notes.items
those-below starts l b names c = named-below starts l.origins names b.notes.items (all_named l.origins l.fabric l.capacity b.notes.items c.legal c.own)

below-more : (m n : ℕ) (notes : List Note) → m ≤ n → AreBelow m notes → AreBelow n notes
below-more m n [] l h = tt
below-more m n (x ∷ xs) l h = (omega (arith, l, h.0), below-more m n xs l h.1)

-- ---- bays

module _ {A B C : Type 0} (f : A → C) (g : B → C) (xs : List A) (ys : List B) (h : map f xs ≡ map g ys) where
  same_length : length xs ≡ length ys
  same_length = let e : length (map f xs) ≡ length (map g ys) = ap length h in omega (arith, e, length-map xs f, length-map ys g)

  pub same_at : (i : ℕ) (d : A) (e : B) → i < length ys → f (get_or xs i d) ≡ g (get_or ys i e)
  same_at i d e lt =
      sym (get_or-map f xs i d (f d) (let n = same_length in omega (arith, lt, n)))
      ∙ ap (λ (cs : List C). get_or cs i (f d)) h
      ∙ get_or-map g ys i e (f d) lt

-- there is a label for each fabric
pub as_many : (fabrics : List FabricLine) (labels : List Label) → HaveRoom fabrics labels → length labels ≡ length fabrics
as_many fabrics labels h = same_length (λ (l : Label). l.capacity) (λ (f : FabricLine). room_of f.capacity) labels fabrics h

module _ (labels : List Label) (starts : List Start) (orders : List Order) (out : Outcome) (a : AreLabels starts labels) (o : IsOutcome labels starts orders out) where
  -- the bays tell of those tenants alone that run
  pub all_below : AllByRecursion (λ b. AreBelow (length starts) b.notes.items) out.bays.items
  all_below = all_each (λ (b : NotedCore). AreBelow (length starts) b.notes.items) out.bays.items (λ g b lt.
      let w : g < length labels = let n = o.all_bays in omega (arith, lt, n) in
      those-below starts (get_or labels g b.label) (get_or out.bays.items g b) (a g b.label w).origins (o.bays g b.label b w))

  -- each fabric has its bay, whose history is legal for the room that its line says
  pub are_bays : (s : Script) → HaveRoom s.fabrics labels → length starts ≤ length s.tenants → AreBays s out.bays.items
  are_bays s h few = record {
    count = o.all_bays ∙ as_many s.fabrics labels h;
    each = λ g d b lt.
        let w : g < length labels = let n = as_many s.fabrics labels h in omega (arith, lt, n) in
        let c = o.bays g b.label b w in
        let l = get_or labels g b.label in
        let bay = get_or out.bays.items g b in
        let named = (a g b.label w).origins in
        let f : l.fabric ≡ g = (a g b.label w).fabric in
        let p = same_at (λ (k : Label). k.capacity) (λ (x : FabricLine). room_of x.capacity) labels s.fabrics h g b.label d lt in
        record {
          fabric = ap (λ (x : Label). x.fabric) c.label ∙ f;
          room = ap (λ (x : Label). x.capacity) c.label ∙ p;
          legal = subst (λ x. IsLegal g x bay.notes.items) p (subst (λ (n : ℕ). IsLegal n l.capacity bay.notes.items) f c.legal);
          those = below-more (length starts) (length s.tenants) bay.notes.items few (those-below starts l bay named c);
          lines = c.lines;
        };
  }
