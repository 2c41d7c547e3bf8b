-- The names of instances, whatever sizes modules have: without their numbers they stand for the same, and have the same faults.
use Rattle.std.proofs.Common.{◌≡◌, ℕ, ◌+◌, Bool, true, false, if◌then◌else◌, List, [], ◌∷◌, ◌++◌, Option, Some, None, refl, sym, ap, ◌∙◌}
use Rattle.std.specs.Prelude.{fold, flat_map, is_some}
use Rattle.std.specs.Str.{bytes_eq}
use Rattle.vl_flat.specs.vl_design.specs.Placed.{Exp}
use Rattle.vl_flat.specs.declared.binding.Binding.{Binding}
use Rattle.vl_flat.specs.declared.binding.Binding.TheVariants as b
use Rattle.vl_flat.specs.Items as t
use Rattle.vl_flat.specs.Scopes.{Env, Scope, none, bind, plainly}
use Rattle.vl_flat.specs.Kinds.{kind_of}
use Rattle.vl_flat.specs.Ranges.{type_form, type_faults}
use Rattle.vl_flat.specs.Parameters.{converted, value_of, parameter_faults}
use Rattle.vl_flat.specs.Environments.{Counts, Given, Known, plus, item_counts, environment, shape, with_signal, with_parameter, with_item}
use Rattle.vl_flat.specs.Functions.{local_shape, with_locals, function_scope, function_faults}
use Rattle.vl_flat.specs.Statements.{statement_faults}
use Rattle.vl_flat.specs.Processes.{Here, declared_faults, assignment_faults, item_faults}
use Rattle.vl_sound.specs.Bare.{bare, bare_of, bare_env, bare_scope}
use Rattle.vl_sound.proofs.StatementsOfAlike.{statement-kept}
use Rattle.vl_sound.proofs.DeclaredOfAlike.{shape-kept, local-kept, form-kept, type-faults-kept, parameter-kept, parameter-faults-kept, declared-faults-kept, assignment-faults-kept}

-- the names stand for the same, but for numbers
abbrev pub SameNames : Env → Env → Type 0
SameNames a c = bare_env a ≡ bare_env c

-- what has no numbers is the same
pub through : {A : Type 0} (f : Env → A) → ((env : Env) → f (bare_env env) ≡ f env) → (a c : Env) → SameNames a c → f a ≡ f c
through f kept a c h = sym (kept a) ∙ (ap f h ∙ kept c)

some-kept : (o : Option Binding) → is_some (bare_of o) ≡ is_some o
some-kept None = refl
some-kept (Some y) = refl

pub some-same : (a c : Env) → SameNames a c → (n : List ℕ) → is_some (a n) ≡ is_some (c n)
some-same a c h n = through (λ z. is_some (z n)) (λ z. some-kept (z n)) a c h

bind-same : (a c : Env) (n : List ℕ) (y z : Binding) → bare y ≡ bare z → SameNames a c → SameNames (bind a n y) (bind c n z)
bind-same a c n y z h k = λ i u. by u (bytes_eq n u) i
  where
    by : (u : List ℕ) (q : Bool) → bare_of (if q then Some y else a u) ≡ bare_of (if q then Some z else c u)
    by u true = λ i. Some (h i)
    by u false = λ i. k i u

-- two instances are given the same, but for the numbers of their first signal and function
pub record GivenAlike (g h : Given) : Type 0 where
  pub path : g.path ≡ h.path
  pub overrides : g.overrides ≡ h.overrides
  pub clocks : g.clocks ≡ h.clocks
  pub wired : g.wired ≡ h.wired

module _ (g h : Given) (alike : GivenAlike g h) (m : t.Module) where
  new-signal : Given → Known → t.Declared → Known
  new-signal f k d =
      let n = d.name.name in
      record { env = bind k.env n (b.Signal k.next.signals (shape k.env (kind_of m (f.clocks n) (f.wired n) n) d)); next = plus k.next (record { signals = 1; functions = 0 }) }

  signal-alike : (k j : Known) (d : t.Declared) → SameNames k.env j.env → SameNames (with_signal g m k d).env (with_signal h m j d).env
  unfolding new-signal
  signal-alike k j d same = by (is_some (k.env n)) (is_some (j.env n)) (some-same k.env j.env same n)
    where
      n : List ℕ
      n = d.name.name

      shapes : shape k.env (kind_of m (g.clocks n) (g.wired n) n) d ≡ shape j.env (kind_of m (h.clocks n) (h.wired n) n) d
      shapes =
          (λ i. shape k.env (kind_of m (alike.clocks i n) (alike.wired i n) n) d)
          ∙ through (λ z. shape z (kind_of m (h.clocks n) (h.wired n) n) d) (λ z. shape-kept z (kind_of m (h.clocks n) (h.wired n) n) d) k.env j.env same

      by : (p q : Bool) → p ≡ q → SameNames (if p then k else new-signal g k d).env (if q then j else new-signal h j d).env
      by true true e = same
      by false false e = bind-same k.env j.env n _ _ (λ i. b.Signal 0 (shapes i)) same
      by true false e = absurd cc
      by false true e = absurd cc

  signals-alike : (ds : List t.Declared) (k j : Known) → SameNames k.env j.env → SameNames (fold (with_signal g m) k ds).env (fold (with_signal h m) j ds).env
  signals-alike [] k j same = same
  signals-alike (d ∷ ds) k j same = signals-alike ds (with_signal g m k d) (with_signal h m j d) (signal-alike k j d same)

  parameters-alike : (type : t.DataType) (ps : List t.Parameter) (k j : Known) → SameNames k.env j.env → SameNames (fold (with_parameter g type) k ps).env (fold (with_parameter h type) j ps).env
  parameters-alike type [] k j same = same
  parameters-alike type (a ∷ ps) k j same =
      let n = a.name.name in
      let values = (λ i. converted k.env type (value_of k.env (alike.overrides i n) a))
      ∙ through (λ z. converted z type (value_of z (h.overrides n) a)) (λ z. parameter-kept z type (h.overrides n) a) k.env j.env same in
      parameters-alike type ps (with_parameter g type k a) (with_parameter h type j a) (bind-same k.env j.env n _ _ (λ i. b.Constant (values i)) same)

  module _ (one other : List ℕ → Counts) where
    pub item-alike : (item : t.Item) (k j : Known) → SameNames k.env j.env → SameNames (with_item one g m k item).env (with_item other h m j item).env
    item-alike (t.Parameters type ps) k j same = parameters-alike type ps k j same
    item-alike (t.Signals ds) k j same = signals-alike ds k j same
    item-alike (t.Functions a) k j same =
        bind-same k.env j.env a.name.name _ _ (λ i. b.Function 0 (through (λ z. type_form z a.type) (λ z. form-kept z a.type) k.env j.env same i)) same
    item-alike (t.Assigns as') k j same = same
    item-alike (t.Initial at a) k j same = same
    item-alike (t.Always at trigger a) k j same = same
    item-alike (t.Instantiates us) k j same = same

    items-alike : (items : List t.Item) (k j : Known) → SameNames k.env j.env → SameNames (fold (with_item one g m) k items).env (fold (with_item other h m) j items).env
    items-alike [] k j same = same
    items-alike (item ∷ items) k j same = items-alike items (with_item one g m k item) (with_item other h m j item) (item-alike item k j same)

    pub environment-alike : SameNames (environment one g m) (environment other h m)
    environment-alike = items-alike m.items (record { env = none; next = g.base }) (record { env = none; next = h.base }) refl

-- ---- functions

locals-alike : (a : t.Function) (one other : Env) → SameNames one other → (ls : List t.Local) (n k : ℕ) (env spot : Env) → SameNames env spot
    → SameNames (with_locals one env a n ls) (with_locals other spot a k ls)
locals-alike a one other h [] n k env spot same = same
locals-alike a one other h (l ∷ ls) n k env spot same =
    locals-alike a one other h ls (n + 1) (k + 1) (bind env l.name.name (b.Signal n (local_shape one a l))) (bind spot l.name.name (b.Signal k (local_shape other a l)))
    (bind-same env spot l.name.name _ _ (λ i. b.Signal 0 (through (λ z. local_shape z a l) (λ z. local-kept z a l) one other h i)) same)

function-alike : (n k : ℕ) (env spot : Env) (a : t.Function) → SameNames env spot → function_faults n env a ≡ function_faults k spot a
function-alike n k env spot a same =
    let scopes : bare_scope (function_scope n env a) ≡ bare_scope (function_scope k spot a) = λ i. record { names = locals-alike a env spot same a.locals n k env spot same i; calls = same i } in
    let body = sym (statement-kept (function_scope n env a) a.body) ∙ ((λ i. statement_faults (scopes i) a.body) ∙ statement-kept (function_scope k spot a) a.body) in
    λ i. flat_map (λ (l : t.Local). through (λ z. type_faults z l.type l.name.place) (λ z. type-faults-kept z l.type l.name.place) env spot same i) a.locals ++ body i

-- ---- items

pub faults-alike : (here spot : Here) → SameNames here.env spot.env → (given : List ℕ → Option Exp) (item : t.Item) → item_faults here given item ≡ item_faults spot given item
faults-alike here spot same given (t.Parameters type ps) =
    λ i. flat_map (λ (a : t.Parameter). through (λ z. parameter_faults z type (given a.name.name) a) (λ z. parameter-faults-kept z type (given a.name.name) a) here.env spot.env same i) ps
faults-alike here spot same given (t.Signals ds) =
    λ i. flat_map (λ (d : t.Declared). through (λ z. declared_faults z d) (λ z. declared-faults-kept z d) here.env spot.env same i) ds
faults-alike here spot same given (t.Assigns as') =
    λ i. flat_map (λ (a : t.Setting). through (λ z. assignment_faults z a) (λ z. assignment-faults-kept z a) here.env spot.env same i) as'
faults-alike here spot same given (t.Initial at a) = through (λ z. statement_faults (plainly z) a) (λ z. statement-kept (plainly z) a) here.env spot.env same
faults-alike here spot same given (t.Always at trigger a) = through (λ z. statement_faults (plainly z) a) (λ z. statement-kept (plainly z) a) here.env spot.env same
faults-alike here spot same given (t.Functions a) = function-alike here.behind spot.behind here.env spot.env a same
faults-alike here spot same given (t.Instantiates us) = refl
