-- Statements whose calls of `$save` have names that are fit for files.
use Rattle.std.proofs.Common.{◌≡◌, Bool, false, List, [], ◌∷◌, refl}
use Rattle.std.specs.Prelude.{⊤, ◌||◌}
use Rattle.ten_plan.specs.vl_design.specs.Syntax.{Exp, Num, Label, Sig, Word, Pick, Slice, Un, Bin, Cond, Cat, Rep, Cast, Call, Time, LastAnswer, Exps, NoExps, MoreExps, Target, Whole, WordAt, PickAt, SliceAt, Several, Targets, NoTargets, MoreTargets, Piece, Literal, Shown, Task, Print, Finish, Fread, Fgetc, Feof, Fclose, Stm, Nop, Then, If, Case, For, Repeat, Set, Later, Sys, Items, NoItems, Labelled, Default}
use Rattle.ten_plan.specs.vl_design.specs.Nodes.{has, some_have, target_has, targets_have, pieces_have, arguments_have, stm_has, items_have}
use Rattle.ten_plan.specs.vl_design.proofs.Leading.{AllIn, AllItems}
use Rattle.ten_plan.specs.vl_design.proofs.Resting.{or_none}
use Rattle.ten_plan.specs.vl_design.proofs.Unread.{or_false}
use Rattle.elab_laws.specs.Names.{is_misnamed}

abbrev pub never : Exp → Bool
never e = false

-- no call has another name
abbrev pub IsNamedTask : Task → Type 0
IsNamedTask task = is_misnamed task ≡ false

abbrev pub Named : Stm → Type 0
Named a = AllIn (λ t. ⊤) (λ t. ⊤) IsNamedTask (λ v. ⊤) a

abbrev pub ItemsNamed : Items → Type 0
ItemsNamed items = AllItems (λ t. ⊤) (λ t. ⊤) IsNamedTask (λ v. ⊤) items

abbrev pub Names : Stm → Type 0
Names a = stm_has never is_misnamed a ≡ false

abbrev ItemsName : Items → Type 0
ItemsName items = items_have never is_misnamed items ≡ false

-- ---- no node of an expression counts

mutual
  exp-none : (e : Exp) → has never e ≡ false
  exp-none (Num v w s) = refl
  exp-none (Label v care w s) = refl
  exp-none (Sig k) = refl
  exp-none (Word m a) = exp-none a
  exp-none (Pick b i from w) = or_none (has never b) (has never i) (exp-none b) (exp-none i)
  exp-none (Slice b low w) = exp-none b
  exp-none (Un op a) = exp-none a
  exp-none (Bin op a b) = or_none (has never a) (has never b) (exp-none a) (exp-none b)
  exp-none (Cond c a b) = or_none (has never c) (has never a || has never b) (exp-none c) (or_none (has never a) (has never b) (exp-none a) (exp-none b))
  exp-none (Cat es) = exps-none es
  exp-none (Rep n es) = exps-none es
  exp-none (Cast s a) = exp-none a
  exp-none (Call f es) = exps-none es
  exp-none Time = refl
  exp-none LastAnswer = refl

  exps-none : (es : Exps) → some_have never es ≡ false
  exps-none NoExps = refl
  exps-none (MoreExps e es) = or_none (has never e) (some_have never es) (exp-none e) (exps-none es)

mutual
  target-none : (t : Target) → target_has never t ≡ false
  target-none (Whole k) = refl
  target-none (WordAt m a) = exp-none a
  target-none (PickAt b i from w) = or_none (target_has never b) (has never i) (target-none b) (exp-none i)
  target-none (SliceAt b low w) = target-none b
  target-none (Several ts) = targets-none ts

  targets-none : (ts : Targets) → targets_have never ts ≡ false
  targets-none NoTargets = refl
  targets-none (MoreTargets t ts) = or_none (target_has never t) (targets_have never ts) (target-none t) (targets-none ts)

pieces-none : (ps : List Piece) → pieces_have never ps ≡ false
pieces-none [] = refl
pieces-none (Literal text ∷ ps) = pieces-none ps
pieces-none (Shown format e ∷ ps) = or_none (has never e) (pieces_have never ps) (exp-none e) (pieces-none ps)

arguments-none : (task : Task) → arguments_have never task ≡ false
arguments-none (Print pieces newline) = pieces-none pieces
arguments-none (Finish es) = exps-none es
arguments-none (Fread k fd) = exp-none fd
arguments-none (Fgetc fd) = exp-none fd
arguments-none (Feof fd) = exp-none fd
arguments-none (Fclose fd) = exp-none fd
arguments-none task = refl

-- ---- two ways to say it

mutual
  pub names-of : (a : Stm) → Named a → Names a
  names-of Nop h = refl
  names-of (Then a b) h = or_none (stm_has never is_misnamed a) (stm_has never is_misnamed b) (names-of a h.0) (names-of b h.1)
  names-of (If c a b) h =
      or_none (has never c) _ (exp-none c) (or_none (stm_has never is_misnamed a) (stm_has never is_misnamed b) (names-of a h.0) (names-of b h.1))
  names-of (Case e items) h = or_none (has never e) (items_have never is_misnamed items) (exp-none e) (items-name items h)
  names-of (For k start test step a) h =
      or_none (stm_has never is_misnamed start) _ (names-of start h.1)
      (or_none (has never test) _ (exp-none test) (or_none (stm_has never is_misnamed step) (stm_has never is_misnamed a) (names-of step h.2) (names-of a h.3)))
  names-of (Repeat n a) h = names-of a h
  names-of (Set x e) h = or_none (target_has never x) (has never e) (target-none x) (exp-none e)
  names-of (Later x e) h = or_none (target_has never x) (has never e) (target-none x) (exp-none e)
  names-of (Sys task) h = or_none (is_misnamed task) (arguments_have never task) h (arguments-none task)

  items-name : (items : Items) → ItemsNamed items → ItemsName items
  items-name NoItems h = refl
  items-name (Labelled es a others) h =
      or_none (some_have never es) _ (exps-none es) (or_none (stm_has never is_misnamed a) (items_have never is_misnamed others) (names-of a h.0) (items-name others h.1))
  items-name (Default a others) h = or_none (stm_has never is_misnamed a) (items_have never is_misnamed others) (names-of a h.0) (items-name others h.1)

mutual
  pub named-of : (a : Stm) → Names a → Named a
  named-of Nop h = tt
  named-of (Then a b) h = let p = or_false (stm_has never is_misnamed a) (stm_has never is_misnamed b) h in (named-of a p.0, named-of b p.1)
  named-of (If c a b) h =
      let p = or_false (has never c) (stm_has never is_misnamed a || stm_has never is_misnamed b) h in
      let q = or_false (stm_has never is_misnamed a) (stm_has never is_misnamed b) p.1 in
      (named-of a q.0, named-of b q.1)
  named-of (Case e items) h = let p = or_false (has never e) (items_have never is_misnamed items) h in items-named items p.1
  named-of (For k start test step a) h =
      let p = or_false (stm_has never is_misnamed start) (has never test || (stm_has never is_misnamed step || stm_has never is_misnamed a)) h in
      let q = or_false (has never test) (stm_has never is_misnamed step || stm_has never is_misnamed a) p.1 in
      let r = or_false (stm_has never is_misnamed step) (stm_has never is_misnamed a) q.1 in
      (tt, named-of start p.0, named-of step r.0, named-of a r.1)
  named-of (Repeat n a) h = named-of a h
  named-of (Set x e) h = tt
  named-of (Later x e) h = tt
  named-of (Sys task) h = let p = or_false (is_misnamed task) (arguments_have never task) h in p.0

  items-named : (items : Items) → ItemsName items → ItemsNamed items
  items-named NoItems h = tt
  items-named (Labelled es a others) h =
      let p = or_false (some_have never es) (stm_has never is_misnamed a || items_have never is_misnamed others) h in
      let q = or_false (stm_has never is_misnamed a) (items_have never is_misnamed others) p.1 in
      (named-of a q.0, items-named others q.1)
  items-named (Default a others) h = let q = or_false (stm_has never is_misnamed a) (items_have never is_misnamed others) h in (named-of a q.0, items-named others q.1)
