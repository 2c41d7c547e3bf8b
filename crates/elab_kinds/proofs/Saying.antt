-- What a table of declarations says after one more.
use Rattle.std.proofs.Common.{◌≡◌, refl, sym, ap, ◌∙◌, subst, ℕ, ◌+◌, ◌<◌, Bool, true, false, List, [], ◌∷◌, ◌++◌, length, take, get_or, Option, Some, None, unwrap_or, Result, Ok, Err}
use Rattle.std.specs.Prelude.{◌&&◌, ◌||◌, if◌then◌else◌, is_some, option_map, IfOk, OnOk}
use Rattle.std.specs.Result.{result_and}
use Rattle.std.specs.Borrow.{Bor}
use Rattle.std.specs.List.{flat_map}
use Rattle.std.specs.Str.{bytes_eq}
use Rattle.std.specs.Map.{lookup}
use Rattle.std.proofs.lemmas.Cmp.{nat_list_eq_equiv}
use Rattle.std.proofs.lemmas.List.Folds.{list_any-append}
use Rattle.std.proofs.lemmas.Map.Text.{hash_map_updates_str}
use Rattle.std.proofs.lemmas.Slice.Eq.{bytes_eq-Decides}
use Rattle.indexmap.specs.IndexMap.{IndexMap, get_by, UpdatesBy}
use Rattle.elab_plain.specs.vl_flat.specs.Items as x
use Rattle.elab_plain.specs.vl_flat.specs.Kinds.{gives_input}
use Rattle.elab_plain.specs.declared.items.Declared.{Declared}
use Rattle.elab_plain.specs.Seen.{seen}
use Rattle.elab_plain.specs.SeenItems.{seen_bounds, seen_declared}
use Rattle.elab_kinds.specs.declared.declared.Declaration.{Declaration}
use Rattle.elab_kinds.specs.Said.{unsaid, either, declaration_of, said, declaration_at}
use Rattle.elab_kinds.proofs.Adding.{or-more}
use Rattle.elab_kinds.proofs.Parts.{flat-more}
use Rattle.elab_plain.specs.vl_base.proofs.Booleans.{or_false_right as or-false}

-- what one declaration says of its own name
abbrev says : x.Declared → Declaration
says d = record { input = gives_input d.direction; valued = is_some d.value; memory = is_some d.words; variable = d.variable }

either-unsaid : (a : Declaration) → a ≡ either a unsaid
either-unsaid a = λ i. record { input = sym (or-false a.input) i; valued = sym (or-false a.valued) i; memory = sym (or-false a.memory) i; variable = sym (or-false a.variable) i }

either-more : (a b c : Declaration) → either (either a b) c ≡ either a (either b c)
either-more a b c = λ i. record {
  input = sym (or-more a.input b.input c.input) i;
  valued = sym (or-more a.valued b.valued c.valued) i;
  memory = sym (or-more a.memory b.memory c.memory) i;
  variable = sym (or-more a.variable b.variable c.variable) i;
}

abbrev one : Bool → Declaration → Declaration
one b s = record { input = (b && s.input) || false; valued = (b && s.valued) || false; memory = (b && s.memory) || false; variable = (b && s.variable) || false }

one-said : (s : Declaration) → s ≡ one true s
one-said s = either-unsaid s

said-append : (xs ys : List x.Declared) (t : List ℕ) → said (xs ++ ys) t ≡ either (said xs t) (said ys t)
said-append xs ys t = λ i. record {
  input = list_any-append (λ d. bytes_eq t d.name.name && gives_input d.direction) xs ys i;
  valued = list_any-append (λ d. bytes_eq t d.name.name && is_some d.value) xs ys i;
  memory = list_any-append (λ d. bytes_eq t d.name.name && is_some d.words) xs ys i;
  variable = list_any-append (λ d. bytes_eq t d.name.name && d.variable) xs ys i;
}

some-map : {X Y : Type 0} (f : X → Y) (o : Option X) → is_some o ≡ is_some (option_map f o)
some-map f None = refl
some-map f (Some v) = refl

pub says-seen : (type : x.DataType) (d : Declared) → declaration_of d ≡ says (seen_declared type d)
says-seen type d = λ i. record { input = gives_input d.direction; valued = some-map seen d.value i; memory = some-map seen_bounds d.words i; variable = d.variable }

pub declared-insert : {S : Type 0} (m n : IndexMap (Bor (List ℕ)) Declaration S) (bs : List ℕ) (w : Declaration) → UpdatesBy (λ x y. bytes_eq x.now y.now) (λ k. bytes_eq bs k.now) m n (Some w)
    → (t : List ℕ) → declaration_at n t ≡ (if bytes_eq t bs then w else declaration_at m t)
declared-insert m n bs w u t =
    ap (λ o. unwrap_or o unsaid) (hash_map_updates_str bs m n (Some w) u t ∙ ap (λ b. if b then Some w else get_by (λ k. bytes_eq t k.now) m) (nat_list_eq_equiv.symm bs t))
    ∙ go (bytes_eq t bs)
  where
    go : (b : Bool) → unwrap_or (if b then Some w else get_by (λ k. bytes_eq t k.now) m) unsaid ≡ (if b then w else declaration_at m t)
    go true = refl
    go false = refl

-- where what is put in is made of what was there
pub one-more : {S : Type 0} (m n : IndexMap (Bor (List ℕ)) Declaration S) (bs : List ℕ) (w told : Declaration) (d : x.Declared) → bs ≡ d.name.name → w ≡ either (declaration_at m bs) told → told ≡ says d
    → UpdatesBy (λ x y. bytes_eq x.now y.now) (λ k. bytes_eq bs k.now) m n (Some w) → declaration_at n ≡ (λ t. either (declaration_at m t) (said (d ∷ []) t))
one-more m n bs w told d named made tells u = λ i t. at t i
  where
    go : (t : List ℕ) (b : Bool) → bytes_eq t bs ≡ b → (if b then w else declaration_at m t) ≡ either (declaration_at m t) (one b (says d))
    go t true e =
        made
        ∙ (ap (λ z. either (declaration_at m z) told) (sym ((bytes_eq-Decides t bs).0 e))
        ∙ ap (either (declaration_at m t)) (tells ∙ one-said (says d)))
    go t false e = either-unsaid (declaration_at m t)

    at : (t : List ℕ) → declaration_at n t ≡ either (declaration_at m t) (said (d ∷ []) t)
    at t = declared-insert m n bs w u t ∙ (go t (bytes_eq t bs) refl ∙ ap (λ z. either (declaration_at m t) (one (bytes_eq t z) (says d))) named)

-- one more part of a list
pub said-more : {X : Type 0} (a b c : List ℕ → Declaration) (views : X → List x.Declared) (xs : List X) (i : ℕ) (y : X) → i < length xs → y ≡ get_or xs i y
    → b ≡ (λ t. either (a t) (said (flat_map views (take i xs)) t)) → c ≡ (λ t. either (b t) (said (views y) t)) → c ≡ (λ t. either (a t) (said (flat_map views (take (i + 1) xs)) t))
said-more a b c views xs i y l is p q =
    q
    ∙ (ap (λ (z : List ℕ → Declaration). λ t. either (z t) (said (views y) t)) p
    ∙ ((λ j t. either-more (a t) (said (flat_map views (take i xs)) t) (said (views y) t) j)
    ∙ ((λ j t. either (a t) (sym (said-append (flat_map views (take i xs)) (views y) t) j))
    ∙ ap (λ (z : List x.Declared). λ t. either (a t) (said z t)) (sym (flat-more views xs i y l is)))))

-- nothing yet
pub said-none : (a : List ℕ → Declaration) → a ≡ (λ t. either (a t) (said [] t))
said-none a = λ i t. either-unsaid (a t) i

-- what an empty table says
pub said-empty : {S : Type 0} (m : IndexMap (Bor (List ℕ)) Declaration S) (b : List ℕ → Declaration) (ds : List x.Declared) → m.entries ≡ [] → b ≡ (λ t. either (declaration_at m t) (said ds t)) → b ≡ said ds
said-empty m b ds e p = p ∙ (λ i t. either (at t i) (said ds t))
  where
    at : (t : List ℕ) → declaration_at m t ≡ unsaid
    at t = ap (λ es. unwrap_or (lookup (λ k. bytes_eq t k.now) es) unsaid) e

-- what a table says that was empty, where all was added
pub all-said : {S U E : Type 0} (r : Result U E) (w : Result (IndexMap (Bor (List ℕ)) Declaration S) E) (m n : IndexMap (Bor (List ℕ)) Declaration S) (ds : List x.Declared) → w ≡ result_and r (Ok n) → m.entries ≡ []
    → OnOk r (declaration_at n ≡ (λ t. either (declaration_at m t) (said ds t))) → IfOk w (λ z. declaration_at z ≡ said ds)
all-said {S} {U} {E} r w m n ds is e p = subst (λ (z : Result (IndexMap (Bor (List ℕ)) Declaration S) E). IfOk z (λ v. declaration_at v ≡ said ds)) (sym is) (go r p)
  where
    go : (r : Result U E) → OnOk r (declaration_at n ≡ (λ t. either (declaration_at m t) (said ds t))) → IfOk (result_and r (Ok n)) (λ v. declaration_at v ≡ said ds)
    go (Ok x) q = said-empty m (declaration_at n) ds e q
    go (Err x) q = tt
