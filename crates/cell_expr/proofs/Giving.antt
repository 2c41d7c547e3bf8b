-- Arguments one by one (IEEE 1364-2005, clause 10.4.3).
use Rattle.std.proofs.Common.{◌≡◌, ℕ, ◌+◌, ◌<◌, List, [], ◌∷◌, map, drop, length, get_or, refl, arith, subst}
use Rattle.std.specs.Prelude.{All}
use Rattle.std.proofs.lemmas.List.{drop_more}
use Rattle.vl_design.specs.Syntax.{Exp, Exps, NoExps, MoreExps, Fun}
use Rattle.vl_design.specs.Value.{arguments}
use Rattle.vl_design.specs.Width.{Names, Scope, names_in, rows_in, signal_form}
use Rattle.cell_emit.specs.cell_form.specs.Data.{ListData}
use Rattle.cell_emit.specs.Envs.{Env, Fits}
use Rattle.cell_expr.specs.Counts.{exp_count, exps_count}
use Rattle.cell_expr.specs.Passes.{Passes}
use Rattle.vl_design.specs.declared.design.Expr.{Expr}
use Rattle.vl_design.specs.Sound.{count_of}
use Rattle.vl_design.specs.Trees.{exps_of}
use Rattle.cell_expr.proofs.Passing.{passes-none, passes-more}
pub use Rattle.vl_design.proofs.Shared.{many-count}

module _ (names : Names) (g : Fun) where
  abbrev pub widths : List ℕ → List ℕ
  widths ks = map (λ k. (signal_form (rows_in names g) k).width) ks

  abbrev inside : Names
  inside = names_in names g

  -- when the arguments that are left have been passed, all have been
  abbrev pub Passed : Scope → (ℕ → ℕ) → Env → Env → Env → ListData → ListData → Exps → List ℕ → Exps → List ℕ → Type 0
  Passed scope body at first now old mid rest ks whole inputs = (last : Env) (new : ListData) →
      Passes names inside (exps_count body rest) at now last mid new ks (λ x. arguments scope x rest (widths ks)) →
      Passes names inside (exps_count body whole) at first last old new inputs (λ x. arguments scope x whole (widths inputs))

  pub passed-more : (scope : Scope) (body : ℕ → ℕ) (at first now next : Env) (old mid far : ListData) (e : Exp) (es rest whole : Exps) (k : ℕ) (ks left inputs : List ℕ) → rest ≡ MoreExps e es → left ≡ k ∷ ks → Fits names mid at →
      Passes names inside (exp_count body e + 1) at now next mid far (k ∷ []) (λ x. arguments scope x (MoreExps e NoExps) ((signal_form (rows_in names g) k).width ∷ [])) →
      Passed scope body at first now old mid rest left whole inputs → Passed scope body at first next old far es ks whole inputs
  passed-more scope body at first now next old mid far e es rest whole k ks left inputs i j fits one lead last new others =
      let F : Exps → Type 0 = λ z. Passed scope body at first now old mid z left whole inputs in
      let G : List ℕ → Type 0 = λ z. Passed scope body at first now old mid (MoreExps e es) z whole inputs in
      let lead' : Passed scope body at first now old mid (MoreExps e es) (k ∷ ks) whole inputs = subst G j (subst F i lead) in
      lead' last new
      (passes-more names inside at (exp_count body e + 1) (exps_count body es) now next last mid far new k ks (k ∷ ks) _ (λ x. arguments scope x es (widths ks)) (λ x. arguments scope x (MoreExps e es) (widths (k ∷ ks))) refl (λ x. refl) fits one others)

  pub passed-all : (scope : Scope) (body : ℕ → ℕ) (at first now : Env) (old new : ListData) (rest whole : Exps) (left inputs : List ℕ) → rest ≡ NoExps → left ≡ [] → Fits inside new now →
      Passed scope body at first now old new rest left whole inputs → Passes names inside (exps_count body whole) at first now old new inputs (λ x. arguments scope x whole (widths inputs))
  passed-all scope body at first now old new rest whole left inputs i j fits lead =
      let F : Exps → Type 0 = λ z. Passed scope body at first now old new z left whole inputs in
      let G : List ℕ → Type 0 = λ z. Passed scope body at first now old new NoExps z whole inputs in
      subst G j (subst F i lead) now new (passes-none names inside at now new [] (λ x. []) refl fits)

-- ---- what an argument is passed to

pub input-at : (P : ℕ → Type 0) (ks : List ℕ) (i : ℕ) → All P ks → i < length ks → P (get_or ks i 0)
input-at P ks i all h = all i 0 h

pub inputs-more : (ks : List ℕ) (i : ℕ) → i < length ks → drop i ks ≡ get_or ks i 0 ∷ drop (i + 1) ks
inputs-more ks i h = drop_more ks i 0 h
