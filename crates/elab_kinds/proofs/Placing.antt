-- Where the first module of a name stands.
use Rattle.std.proofs.Common.{◌≡◌, refl, sym, ap, ◌∙◌, subst, ℕ, suc, ◌+◌, ◌<◌, Bool, true, false, List, [], ◌∷◌, ◌++◌, map, length, take, get_or, Option, Some, None, arith, Result, Ok, Err}
use Rattle.std.specs.Prelude.{if◌then◌else◌, option_map, slice_get, is_some, IfOk, OnOk}
use Rattle.std.specs.Result.{result_and}
use Rattle.std.proofs.lemmas.Grind.{common_steps}
use Rattle.std.specs.Borrow.{Bor}
use Rattle.std.specs.Map.{lookup}
use Rattle.std.specs.Str.{bytes_eq}
use Rattle.std.proofs.lemmas.Cmp.{nat_list_eq_equiv}
use Rattle.std.proofs.lemmas.List.{take_more, map_push}
use Rattle.std.proofs.lemmas.Slice.Eq.{bytes_eq-Decides}
use Rattle.std.proofs.lemmas.Map.Text.{hash_map_updates_str}
use Rattle.indexmap.specs.IndexMap.{IndexMap, UpdatesBy}
use Rattle.elab_plain.specs.vl_flat.specs.Items as x
use Rattle.elab_plain.specs.vl_flat.specs.Environments.{module_named}
use Rattle.elab_plain.specs.declared.items.Module.{Module}
use Rattle.elab_plain.specs.SeenItems.{seen_module}
use Rattle.elab_kinds.specs.declared.index.Index.{Index}
use Rattle.elab_kinds.specs.Places.{place_named, place_in, place_after, place_of, IsPlaceOf}
pub use Rattle.elab_plain.specs.vl_base.proofs.Options.{none_by as is-none}

after-suc : (o : Option ℕ) (same : Bool) (p : ℕ) → option_map (λ n. suc n) (place_after o same p) ≡ place_after (option_map (λ n. suc n) o) same (suc p)
after-suc (Some q) same p = refl
after-suc None true p = refl
after-suc None false p = refl

place-push : (ms : List x.Module) (m : x.Module) (t : List ℕ) → place_named (ms ++ m ∷ []) t ≡ place_after (place_named ms t) (bytes_eq t m.name.name) (length ms)
place-push [] m t = refl
place-push (y ∷ ys) m t = go (place-push ys m t) (bytes_eq t y.name.name)
  where
    go : place_named (ys ++ m ∷ []) t ≡ place_after (place_named ys t) (bytes_eq t m.name.name) (length ys) → (b : Bool) → (if b then Some 0 else option_map (λ p. suc p) (place_named (ys ++ m ∷ []) t)) ≡ place_after (if b then Some 0 else option_map (λ p. suc p) (place_named ys t)) (bytes_eq t m.name.name) (length (y ∷ ys))
    go rest true = refl
    go rest false = ap (option_map (λ p. suc p)) rest ∙ after-suc (place_named ys t) (bytes_eq t m.name.name) (length ys)

-- one more module
pub place-more : (old new : List ℕ → Option ℕ) (ms : List Module) (i : ℕ) (y : Module) → i < length ms → y ≡ get_or ms i y
    → ((t : List ℕ) → old t ≡ place_named (map seen_module (take i ms)) t) → ((t : List ℕ) → new t ≡ place_after (old t) (bytes_eq t y.name.name) i)
    → length (map seen_module (take i ms)) ≡ i → (t : List ℕ) → new t ≡ place_named (map seen_module (take (i + 1) ms)) t
place-more old new ms i y l is before now counted t =
    now t
    ∙ (ap (λ o. place_after o (bytes_eq t y.name.name) i) (before t)
    ∙ (ap (place_after (place_named (map seen_module (take i ms)) t) (bytes_eq t y.name.name)) (sym counted)
    ∙ (sym (place-push (map seen_module (take i ms)) (seen_module y) t)
    ∙ ap (λ z. place_named z t) (ap (λ z. map seen_module (take i ms) ++ seen_module z ∷ []) is ∙ sym (ap (map seen_module) (take_more ms i y l) ∙ map_push seen_module (take i ms) (get_or ms i y))))))

-- a place for a name that has none
pub place-insert : {S : Type 0} (m n : IndexMap (Bor (List ℕ)) ℕ S) (bs : List ℕ) (w : ℕ) → UpdatesBy (λ x y. bytes_eq x.now y.now) (λ k. bytes_eq bs k.now) m n (Some w) → place_in m bs ≡ None
    → (t : List ℕ) → place_in n t ≡ place_after (place_in m t) (bytes_eq t bs) w
place-insert m n bs w u new t =
    hash_map_updates_str bs m n (Some w) u t ∙ (ap (λ b. if b then Some w else place_in m t) (nat_list_eq_equiv.symm bs t) ∙ go (bytes_eq t bs) refl)
  where
    kept : (o : Option ℕ) → o ≡ place_after o false w
    kept None = refl
    kept (Some p) = refl

    go : (b : Bool) → bytes_eq t bs ≡ b → (if b then Some w else place_in m t) ≡ place_after (place_in m t) b w
    go true e = sym (ap (λ o. place_after o true w) (ap (place_in m) ((bytes_eq-Decides t bs).0 e) ∙ new))
    go false e = kept (place_in m t)

-- a name that has a place
pub place-kept : (o : List ℕ → Option ℕ) (bs : List ℕ) (w : ℕ) → is_some (o bs) ≡ true → (t : List ℕ) → o t ≡ place_after (o t) (bytes_eq t bs) w
place-kept o bs w has t = go (bytes_eq t bs) refl
  where
    at : (a : Option ℕ) → is_some a ≡ true → a ≡ place_after a true w
    at None e = cc
    at (Some q) e = refl

    kept : (a : Option ℕ) → a ≡ place_after a false w
    kept None = refl
    kept (Some q) = refl

    go : (b : Bool) → bytes_eq t bs ≡ b → o t ≡ place_after (o t) b w
    go true e = at (o t) (ap (λ z. is_some (o z)) ((bytes_eq-Decides t bs).0 e) ∙ has)
    go false e = kept (o t)

pub length-map-take : (ms : List Module) (i : ℕ) → i < length ms → length (map seen_module (take i ms)) ≡ i
length-map-take ms i l = grind (arith, common_steps)

pub place-empty : {S : Type 0} (m : IndexMap (Bor (List ℕ)) ℕ S) (t : List ℕ) → m.entries ≡ [] → place_in m t ≡ None
place-empty m t e = ap (lookup (λ k. bytes_eq t k.now)) e

-- a table, where all names got their places
pub all-placed : {U E : Type 0} (r : Result U E) (w : Result Index E) (s : Index) (ms : List x.Module) → w ≡ result_and r (Ok s) → OnOk r (place_of s ≡ place_named ms) → IfOk w (λ z. place_of z ≡ place_named ms)
all-placed {U} {E} r w s ms is p = subst (λ (z : Result Index E). IfOk z (λ v. place_of v ≡ place_named ms)) (sym is) (go r p)
  where
    go : (r : Result U E) → OnOk r (place_of s ≡ place_named ms) → IfOk (result_and r (Ok s)) (λ v. place_of v ≡ place_named ms)
    go (Ok x) q = q
    go (Err x) q = tt

-- it is the place of the module that is named so
abbrev Is : List x.Module → Option x.Module → Option ℕ → Type 0
Is ms found None = found ≡ None
Is ms found (Some p) = (p < length ms) × (found ≡ slice_get ms p)

is-later : (m : x.Module) (ms : List x.Module) (found : Option x.Module) (o : Option ℕ) → Is ms found o → Is (m ∷ ms) found (option_map (λ p. suc p) o)
is-later m ms found None e = e
is-later m ms found (Some p) (l, e) = (omega (arith, l), e)

is-named : (ms : List x.Module) (t : List ℕ) → Is ms (module_named ms t) (place_named ms t)
is-named [] t = refl
is-named (m ∷ ms) t = go (is-named ms t) (bytes_eq t m.name.name)
  where
    go : Is ms (module_named ms t) (place_named ms t) → (b : Bool) → Is (m ∷ ms) (if b then Some m else module_named ms t) (if b then Some 0 else option_map (λ p. suc p) (place_named ms t))
    go rest true = (omega arith, refl)
    go rest false = is-later m ms (module_named ms t) (place_named ms t) rest

pub is-place : (ms : List x.Module) (t : List ℕ) (o : Option ℕ) → place_named ms t ≡ o → IsPlaceOf ms t o
is-place ms t o e = by-cases o (subst (λ (z : Option ℕ). Is ms (module_named ms t) z) e (is-named ms t))
  where
    by-cases : (o : Option ℕ) → Is ms (module_named ms t) o → IsPlaceOf ms t o
    by-cases None p = p
    by-cases (Some q) p = p
