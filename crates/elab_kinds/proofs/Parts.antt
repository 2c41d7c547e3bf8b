-- What items do with a name, by the program's lists.
use Rattle.std.proofs.Common.{◌≡◌, refl, sym, ap, ◌∙◌, subst, ℕ, ◌+◌, ◌<◌, Bool, List, [], ◌∷◌, ◌++◌, map, length, take, get_or, Option, Some, None, append-nil, Result, Ok, Err}
use Rattle.std.specs.Prelude.{◌||◌, IfOk, OnOk}
use Rattle.std.specs.Result.{result_and}
use Rattle.std.specs.Borrow.{Bor}
use Rattle.std.specs.List.{list_any, flat_map}
use Rattle.std.specs.Str.{bytes_eq}
use Rattle.std.proofs.lemmas.List.{take_more}
use Rattle.std.proofs.lemmas.List.Folds.{list_any-append}
use Rattle.std.proofs.lemmas.Grind.{flat_map-append}
use Rattle.indexmap.specs.IndexSet.{IndexSet}
use Rattle.elab_plain.specs.vl_tree.specs.declared.tree.Identifier.{Identifier}
use Rattle.elab_plain.specs.vl_flat.specs.Items as x
use Rattle.elab_plain.specs.vl_flat.specs.Kinds.{optional_uses, unit_uses}
use Rattle.elab_plain.specs.declared.surface.Ex.{Ex}
use Rattle.elab_plain.specs.Seen.{seen}
use Rattle.elab_plain.specs.declared.items.Declared.{Declared}
use Rattle.elab_plain.specs.declared.items.Connection.{Connection}
use Rattle.elab_plain.specs.declared.items.NamedUnit.{NamedUnit}
use Rattle.elab_plain.specs.declared.items.Locals.{Locals}
use Rattle.elab_plain.specs.SeenItems.{seen_type, seen_declared, seen_connection, seen_unit, seen_local, seen_locals}
use Rattle.std.specs.Prelude.{option_map}
use Rattle.elab_kinds.specs.Names.{has, nothing, Adds}
use Rattle.elab_kinds.specs.Parts.{optional_ex_uses}

pub any-map : {X Y : Type 0} (test : Y → Bool) (view : X → Y) (xs : List X) → list_any test (map view xs) ≡ list_any (λ x. test (view x)) xs
any-map test view [] = refl
any-map test view (y ∷ ys) = ap (λ b. test (view y) || b) (any-map test view ys)

optional-is : (t : List ℕ) (v : Option Ex) → optional_uses t (option_map seen v) ≡ optional_ex_uses t v
optional-is t None = refl
optional-is t (Some e) = refl

pub values-any : (t : List ℕ) (type : x.DataType) (ds : List Declared) → list_any (λ d. optional_uses t d.value) (map (seen_declared type) ds) ≡ list_any (λ d. optional_ex_uses t d.value) ds
values-any t type [] = refl
values-any t type (d ∷ ds) =
    ap (λ b. b || list_any (λ d. optional_uses t d.value) (map (seen_declared type) ds)) (optional-is t d.value)
    ∙ ap (λ b. optional_ex_uses t d.value || b) (values-any t type ds)

connections-any : (t : List ℕ) (qs : List Connection) → list_any (λ q. optional_uses t q.value) (map seen_connection qs) ≡ list_any (λ q. optional_ex_uses t q.value) qs
connections-any t [] = refl
connections-any t (q ∷ qs) =
    ap (λ b. b || list_any (λ q. optional_uses t q.value) (map seen_connection qs)) (optional-is t q.value)
    ∙ ap (λ b. optional_ex_uses t q.value || b) (connections-any t qs)

pub units-any : (t : List ℕ) (us : List NamedUnit) → list_any (unit_uses t) (map seen_unit us) ≡ list_any (λ u. list_any (λ q. optional_ex_uses t q.value) u.connections.items) us
units-any t [] = refl
units-any t (u ∷ us) =
    ap (λ b. b || list_any (unit_uses t) (map seen_unit us)) (connections-any t u.connections.items)
    ∙ ap (λ b. list_any (λ q. optional_ex_uses t q.value) u.connections.items || b) (units-any t us)

identifiers-any : (t : List ℕ) (type : x.DataType) (a b : Bool) (ns : List Identifier) → list_any (λ l. bytes_eq t l.name.name) (map (seen_local type a b) ns) ≡ list_any (λ n. bytes_eq t n.name) ns
identifiers-any t type a b [] = refl
identifiers-any t type a b (n ∷ ns) = ap (λ z. bytes_eq t n.name || z) (identifiers-any t type a b ns)

abbrev own_test : List ℕ → x.Local → Bool
own_test t l = bytes_eq t l.name.name

own-any : (t : List ℕ) (g : Locals) → list_any (own_test t) (seen_locals g) ≡ list_any (λ n. bytes_eq t n.name) g.names.items
own-any t g = identifiers-any t (seen_type g.kind) g.is_input g.is_free g.names.items

pub locals-any : (t : List ℕ) (gs : List Locals) → list_any (own_test t) (flat_map seen_locals gs) ≡ list_any (λ g. list_any (λ n. bytes_eq t n.name) g.names.items) gs
locals-any t [] = refl
locals-any t (g ∷ gs) =
    list_any-append (own_test t) (seen_locals g) (flat_map seen_locals gs)
    ∙ (ap (λ b. list_any (own_test t) (seen_locals g) || b) (locals-any t gs)
    ∙ ap (λ b. b || list_any (λ g. list_any (λ n. bytes_eq t n.name) g.names.items) gs) (own-any t g))

-- what a set has that was empty
pub from-empty : {S : Type 0} (a b : IndexSet (Bor (List ℕ)) S) (f : List ℕ → Bool) → a.keys ≡ [] → Adds a b nothing f → has b ≡ f
from-empty a b f e p = λ i t. at t i
  where
    at : (t : List ℕ) → has b t ≡ f t
    at t = p.added t ∙ ap (λ ks. list_any (λ k. bytes_eq t k.now) ks || f t) e

-- what a set has that was empty, where all was added
pub filled : {S U E : Type 0} (r : Result U E) (w : Result (IndexSet (Bor (List ℕ)) S) E) (a b : IndexSet (Bor (List ℕ)) S) (f : List ℕ → Bool) → w ≡ result_and r (Ok b) → a.keys ≡ [] → OnOk r (Adds a b nothing f) → IfOk w (λ s. has s ≡ f)
filled {S} {U} {E} r w a b f is e p = subst (λ (z : Result (IndexSet (Bor (List ℕ)) S) E). IfOk z (λ s. has s ≡ f)) (sym is) (go r p)
  where
    go : (r : Result U E) → OnOk r (Adds a b nothing f) → IfOk (result_and r (Ok b)) (λ s. has s ≡ f)
    go (Ok x) q = from-empty a b f e q
    go (Err x) q = tt

-- nothing is hidden by an empty set
pub empty-hides : {S : Type 0} (a : IndexSet (Bor (List ℕ)) S) → a.keys ≡ [] → has a ≡ nothing
empty-hides a e = λ i t. ap (λ ks. list_any (λ k. bytes_eq t k.now) ks) e i

-- one more part of a list
pub flat-more : {X Y : Type 0} (f : X → List Y) (xs : List X) (i : ℕ) (y : X) → i < length xs → y ≡ get_or xs i y → flat_map f (take (i + 1) xs) ≡ flat_map f (take i xs) ++ f y
flat-more f xs i y l is =
    ap (flat_map f) (take_more xs i y l)
    ∙ (flat_map-append f (take i xs) (get_or xs i y ∷ [])
    ∙ (ap (λ z. flat_map f (take i xs) ++ z) (append-nil (f (get_or xs i y)))
    ∙ ap (λ z. flat_map f (take i xs) ++ f z) (sym is)))
