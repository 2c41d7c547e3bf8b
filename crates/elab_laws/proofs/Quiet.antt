-- Expressions and left sides in a design: where their leaves are plain, nothing is assigned in them, no answer is read, and only
-- where it may be asked for the time is it asked for.
use Rattle.std.proofs.Common.{◌≡◌, ℕ, Bool, true, false, true≢false, if◌then◌else◌, List, [], ◌∷◌, ◌++◌, Option, Some, None, refl, sym, ◌∙◌}
use Rattle.std.specs.Prelude.{⊤, ◌||◌, fold, codes}
use Rattle.std.specs.List.{list_any}
use Rattle.std.specs.Str.{bytes_eq}
use Rattle.std.proofs.lemmas.List.Folds.{list_any-append}
use Rattle.vl_sound.specs.vl_base.specs.declared.bits.UnOp.{UnOp}
use Rattle.vl_sound.specs.vl_base.specs.declared.place.Place.{Place}
use Rattle.ten_plan.specs.vl_design.specs.Nodes.{has, some_have, target_has, targets_have}
use Rattle.ten_plan.specs.vl_design.specs.Reads.{is_timed}
use Rattle.ten_plan.specs.vl_design.specs.Syntax as d
use Rattle.ten_plan.specs.vl_design.specs.Placed as p
use Rattle.ten_plan.specs.vl_design.specs.Plainly as plain
use Rattle.ten_plan.specs.vl_design.proofs.Resting.{or_none}
use Rattle.vl_accept.specs.vl_sites.specs.Answers.{is_answer}
use Rattle.vl_accept.specs.vl_sites.specs.Sites.{Site, exp_sites, exps_sites, args_sites, target_sites, targets_sites}
use Rattle.vl_accept.specs.vl_check.specs.Rules.{sets}
use Rattle.vl_sound.specs.vl_flat.specs.declared.binding.Binding.{Binding}
use Rattle.vl_sound.specs.vl_flat.specs.declared.binding.Binding.TheVariants as b
use Rattle.vl_sound.specs.vl_flat.specs.Surface as x
use Rattle.vl_sound.specs.vl_flat.specs.Scopes.{Scope, number_of}
use Rattle.vl_sound.specs.vl_flat.specs.Expressions as e
use Rattle.vl_sound.specs.vl_flat.specs.Targets as t
use Rattle.elab_laws.proofs.Leaves.{Has, ExsHave, SelectsHave, ArgsHave, LeftAll, LeftsAll, LeftHas, LeftsHave, IsPlain}
use Rattle.elab_laws.proofs.Steps.{SelectsSo, StepSo, StepsSo, steps-of, name-steps}
use Rattle.elab_laws.proofs.Texts.{Lacks, IsTimeless, AreTimeless, HasNoAnswer, HaveNoAnswer}

-- ---- sites at which none of some signals is assigned

module _ (test : ℕ → Bool) where
  abbrev pub Free : List Site → Type 0
  Free xs = list_any (λ s. sets test s.what) xs ≡ false

  pub free-both : (xs ys : List Site) → Free xs → Free ys → Free (xs ++ ys)
  free-both xs ys f g = list_any-append (λ s. sets test s.what) xs ys ∙ or_none (list_any (λ s. sets test s.what) xs) (list_any (λ s. sets test s.what) ys) f g

-- the expression reads no answer
abbrev pub NoAnswer : p.Exp → Type 0
NoAnswer a = HasNoAnswer (plain.exp a)

module _ (test : ℕ → Bool) (timed : Bool) where
  pub record Quiet (a : p.Exp) : Type 0 where
    pub sites : Free test (exp_sites a)
    pub time : timed ≡ false → IsTimeless (plain.exp a)
    pub answers : NoAnswer a

  pub record AllQuiet (es : p.Exps) : Type 0 where
    pub sites : Free test (exps_sites es)
    pub time : timed ≡ false → some_have is_timed (plain.exps es) ≡ false
    pub answers : some_have is_answer (plain.exps es) ≡ false

  pub record ArgsQuiet (as' : p.Args) : Type 0 where
    pub sites : Free test (args_sites as')
    pub time : timed ≡ false → AreTimeless (plain.args as')
    pub answers : HaveNoAnswer (plain.args as')

  -- ---- steps

  abbrev StepQuiet : e.Step → Type 0
  StepQuiet s = StepSo (λ j. ⊤) Quiet s

  abbrev StepsQuiet : List e.Step → Type 0
  StepsQuiet ss = StepsSo (λ j. ⊤) Quiet ss

  stepped-quiet : (at : Place) (base : p.Exp) (s : e.Step) → Quiet base → StepQuiet s → Quiet (e.stepped at base s)
  stepped-quiet at base (e.Chosen j a) q h = record { sites = h.1.sites; time = h.1.time; answers = h.1.answers }
  stepped-quiet at base (e.Picked i from w) q h = record {
    sites = free-both test (exp_sites base) (exp_sites i) q.sites h.sites;
    time = λ z. or_none (has is_timed (plain.exp base)) (has is_timed (plain.exp i)) (q.time z) (h.time z);
    answers = or_none (has is_answer (plain.exp base)) (has is_answer (plain.exp i)) q.answers h.answers;
  }
  stepped-quiet at base (e.Sliced r l o w) q h = record { sites = q.sites; time = q.time; answers = q.answers }

  fold-quiet : (at : Place) (base : p.Exp) (ss : List e.Step) → Quiet base → StepsQuiet ss → Quiet (fold (e.stepped at) base ss)
  fold-quiet at base [] q h = q
  fold-quiet at base (s ∷ ss) q h = fold-quiet at (e.stepped at base s) ss (stepped-quiet at base s q h.0) h.1

  whole-quiet : (at : Place) (o : Option Binding) → Quiet (e.whole at o)
  whole-quiet at (Some (b.Signal k s)) = record { sites = refl; time = λ z. refl; answers = refl }
  whole-quiet at o = record { sites = refl; time = λ z. refl; answers = refl }

  -- ---- nodes

  marked-quiet : (at : Place) (o : Option UnOp) (a : p.Exp) → Quiet a → Quiet (e.marked at o a)
  marked-quiet at None a q = q
  marked-quiet at (Some op) a q = record { sites = q.sites; time = q.time; answers = q.answers }

  system-quiet : (at : Place) (s u w : Bool) (first rest : p.Exp) → Quiet first → (s || (u || w)) ≡ true → (timed ≡ false → w ≡ false)
      → Quiet (if s then p.Cast at true first else if u then p.Cast at false first else if w then p.Time at else rest)
  system-quiet at true u w first rest q h g = record { sites = q.sites; time = q.time; answers = q.answers }
  system-quiet at false true w first rest q h g = record { sites = q.sites; time = q.time; answers = q.answers }
  system-quiet at false false true first rest q h g = record { sites = refl; time = λ z. absurd (true≢false (g z)); answers = refl }
  system-quiet at false false false first rest q h g = absurd (true≢false (sym h))

  argument-quiet : (keeps : Bool) (a : x.Ex) (v : p.Exp) (others : p.Args) → Quiet v → ArgsQuiet others → ArgsQuiet (e.argument keeps a v others)
  argument-quiet true (x.Text at text) v others q h = record { sites = h.sites; time = h.time; answers = h.answers }
  argument-quiet true a v others q h = record { sites = free-both test (exp_sites v) (args_sites others) q.sites h.sites; time = λ z. (q.time z, h.time z); answers = (q.answers, h.answers) }
  argument-quiet false a v others q h = record { sites = free-both test (exp_sites v) (args_sites others) q.sites h.sites; time = λ z. (q.time z, h.time z); answers = (q.answers, h.answers) }

  -- ---- expressions

  module _ (scope : Scope) where
    mutual
      pub exp-quiet : (a : x.Ex) → Has (IsPlain timed) a → Quiet (e.exp scope a)
      exp-quiet (x.Number at n) h = record { sites = refl; time = λ z. refl; answers = refl }
      exp-quiet (x.Text at text) h = record { sites = refl; time = λ z. refl; answers = refl }
      exp-quiet (x.Named at n ss) h =
          fold-quiet at (e.whole at (scope.names n)) (steps-of scope n ss) (whole-quiet at (scope.names n)) (name-steps (λ j. ⊤) Quiet scope n ss tt (selects-quiet ss h.1))
      exp-quiet (x.Paren at a) h = exp-quiet a h
      exp-quiet (x.Unary at op a) h = marked-quiet at (e.unary_of op) (e.exp scope a) (exp-quiet a h)
      exp-quiet (x.Binary at op a c) h =
          let one = exp-quiet a h.0 in
          let two = exp-quiet c h.1 in
          record {
            sites = free-both test (exp_sites (e.exp scope a)) (exp_sites (e.exp scope c)) one.sites two.sites;
            time = λ z. or_none (has is_timed (plain.exp (e.exp scope a))) (has is_timed (plain.exp (e.exp scope c))) (one.time z) (two.time z);
            answers = or_none (has is_answer (plain.exp (e.exp scope a))) (has is_answer (plain.exp (e.exp scope c))) one.answers two.answers;
          }
      exp-quiet (x.Choice at s a c) h =
          let zero = exp-quiet s h.0 in
          let one = exp-quiet a h.1 in
          let two = exp-quiet c h.2 in
          let both = exp_sites (e.exp scope a) ++ exp_sites (e.exp scope c) in
          record {
            sites = free-both test (exp_sites (e.exp scope s)) both zero.sites (free-both test (exp_sites (e.exp scope a)) (exp_sites (e.exp scope c)) one.sites two.sites);
            time = λ z. or_none (has is_timed (plain.exp (e.exp scope s))) _ (zero.time z) (or_none (has is_timed (plain.exp (e.exp scope a))) (has is_timed (plain.exp (e.exp scope c))) (one.time z) (two.time z));
            answers = or_none (has is_answer (plain.exp (e.exp scope s))) _ zero.answers (or_none (has is_answer (plain.exp (e.exp scope a))) (has is_answer (plain.exp (e.exp scope c))) one.answers two.answers);
          }
      exp-quiet (x.Joined at es) h = let q = exps-quiet es h in record { sites = q.sites; time = q.time; answers = q.answers }
      exp-quiet (x.Repeated at n es) h = let q = exps-quiet es h in record { sites = q.sites; time = q.time; answers = q.answers }
      exp-quiet (x.Called at n es) h = let q = exps-quiet es h.1 in record { sites = q.sites; time = q.time; answers = q.answers }
      exp-quiet (x.System at name given) h =
          system-quiet at (bytes_eq name (codes "$signed")) (bytes_eq name (codes "$unsigned")) (bytes_eq name (codes "$time")) (e.first_of scope at given) (p.Sys at name (e.args scope (e.keeps_texts name) given))
          (first-quiet at given h.1) h.0.0 h.0.1

      pub first-quiet : (at : Place) (given : x.Args) → ArgsHave (IsPlain timed) given → Quiet (e.first_of scope at given)
      first-quiet at x.NoArgs h = record { sites = refl; time = λ z. refl; answers = refl }
      first-quiet at (x.NullArg others) h = record { sites = refl; time = λ z. refl; answers = refl }
      first-quiet at (x.MoreArgs a others) h = exp-quiet a h.0

      exps-quiet : (es : x.Exs) → ExsHave (IsPlain timed) es → AllQuiet (e.exps scope es)
      exps-quiet x.NoExs h = record { sites = refl; time = λ z. refl; answers = refl }
      exps-quiet (x.MoreExs a es) h =
          let one = exp-quiet a h.0 in
          let more = exps-quiet es h.1 in
          record {
            sites = free-both test (exp_sites (e.exp scope a)) (exps_sites (e.exps scope es)) one.sites more.sites;
            time = λ z. or_none (has is_timed (plain.exp (e.exp scope a))) (some_have is_timed (plain.exps (e.exps scope es))) (one.time z) (more.time z);
            answers = or_none (has is_answer (plain.exp (e.exp scope a))) (some_have is_answer (plain.exps (e.exps scope es))) one.answers more.answers;
          }

      selects-quiet : (ss : x.Selects) → SelectsHave (IsPlain timed) ss → SelectsSo scope Quiet ss
      selects-quiet x.NoSelects h = tt
      selects-quiet (x.Index q i others) h = (exp-quiet i h.0, selects-quiet others h.1)
      selects-quiet (x.Range q mark l o others) h = (exp-quiet l h.0, selects-quiet others h.1)

    pub args-quiet : (keeps : Bool) (given : x.Args) → ArgsHave (IsPlain timed) given → ArgsQuiet (e.args scope keeps given)
    args-quiet keeps x.NoArgs h = record { sites = refl; time = λ z. tt; answers = tt }
    args-quiet keeps (x.NullArg others) h = let q = args-quiet keeps others h in record { sites = q.sites; time = q.time; answers = q.answers }
    args-quiet keeps (x.MoreArgs a others) h = argument-quiet keeps a (e.exp scope a) (e.args scope keeps others) (exp-quiet a h.0) (args-quiet keeps others h.1)

    -- a label
    label-quiet : (wild : Bool) (a : x.Ex) → Has (IsPlain timed) a → Quiet (e.label scope wild a)
    label-quiet true (x.Number at n) h = record { sites = refl; time = λ z. refl; answers = refl }
    label-quiet true (x.Paren at a) h = label-quiet true a h
    label-quiet true a h = exp-quiet a h
    label-quiet false a h = exp-quiet a h

    pub labels-quiet : (wild : Bool) (es : x.Exs) → ExsHave (IsPlain timed) es → AllQuiet (e.labels scope wild es)
    labels-quiet wild x.NoExs h = record { sites = refl; time = λ z. refl; answers = refl }
    labels-quiet wild (x.MoreExs a es) h =
        let one = label-quiet wild a h.0 in
        let more = labels-quiet wild es h.1 in
        record {
          sites = free-both test (exp_sites (e.label scope wild a)) (exps_sites (e.labels scope wild es)) one.sites more.sites;
          time = λ z. or_none (has is_timed (plain.exp (e.label scope wild a))) (some_have is_timed (plain.exps (e.labels scope wild es))) (one.time z) (more.time z);
          answers = or_none (has is_answer (plain.exp (e.label scope wild a))) (some_have is_answer (plain.exps (e.labels scope wild es))) one.answers more.answers;
        }

    -- ---- the indices of left sides

    module _ (seen : d.Exp → Bool) (lacks : (a : p.Exp) → Quiet a → Lacks seen (plain.exp a)) where
      abbrev IndexLacks : p.Target → Type 0
      IndexLacks a = target_has seen (plain.target a) ≡ false

      fold-lacks : (at : Place) (base : p.Target) (ss : List e.Step) → IndexLacks base → StepsQuiet ss → IndexLacks (fold (t.stepped at) base ss)
      fold-lacks at base [] q h = q
      fold-lacks at base (e.Chosen j a ∷ ss) q h = fold-lacks at (p.WordAt at j a) ss (lacks a h.0.1) h.1
      fold-lacks at base (e.Picked i from w ∷ ss) q h =
          fold-lacks at (p.PickAt at base i from w) ss (or_none (target_has seen (plain.target base)) (has seen (plain.exp i)) q (lacks i h.0)) h.1
      fold-lacks at base (e.Sliced r l o w ∷ ss) q h = fold-lacks at (p.SliceAt at base (e.part_low r o) w) ss q h.1

      mutual
        left-lacks : (l : x.Left) → LeftHas (IsPlain timed) l → IndexLacks (t.target scope l)
        left-lacks (x.LeftName at n ss) h =
            fold-lacks at (p.Whole at (number_of (scope.names n))) (steps-of scope n ss) refl (name-steps (λ j. ⊤) Quiet scope n ss tt (selects-quiet ss h))
        left-lacks (x.LeftList at ls) h = lefts-lack ls h

        lefts-lack : (ls : x.Lefts) → LeftsHave (IsPlain timed) ls → targets_have seen (plain.targets (t.targets scope ls)) ≡ false
        lefts-lack x.NoLefts h = refl
        lefts-lack (x.MoreLefts l ls) h =
            or_none (target_has seen (plain.target (t.target scope l))) (targets_have seen (plain.targets (t.targets scope ls))) (left-lacks l h.0) (lefts-lack ls h.1)

    pub left-timeless : timed ≡ false → (l : x.Left) → LeftHas (IsPlain timed) l → target_has is_timed (plain.target (t.target scope l)) ≡ false
    left-timeless z l h = left-lacks is_timed (λ a q. q.time z) l h

    pub left-none : (l : x.Left) → LeftHas (IsPlain timed) l → target_has is_answer (plain.target (t.target scope l)) ≡ false
    left-none l h = left-lacks is_answer (λ a q. q.answers) l h

    -- ---- what left sides assign

    fold-free : (later : Bool) (at : Place) (base : p.Target) (ss : List e.Step) → Free test (target_sites later base) → StepsSo (λ j. test j ≡ false) Quiet ss
        → Free test (target_sites later (fold (t.stepped at) base ss))
    fold-free later at base [] q h = q
    fold-free later at base (e.Chosen j a ∷ ss) q h = fold-free later at (p.WordAt at j a) ss (or_none (test j) (list_any (λ s. sets test s.what) (exp_sites a)) h.0.0 h.0.1.sites) h.1
    fold-free later at base (e.Picked i from w ∷ ss) q h = fold-free later at (p.PickAt at base i from w) ss (free-both test (target_sites later base) (exp_sites i) q h.0.sites) h.1
    fold-free later at base (e.Sliced r l o w ∷ ss) q h = fold-free later at (p.SliceAt at base (e.part_low r o) w) ss q h.1

    name-free : (later : Bool) (at : Place) (n : List ℕ) (ss : x.Selects) → test (number_of (scope.names n)) ≡ false → SelectsHave (IsPlain timed) ss
        → Free test (target_sites later (t.target scope (x.LeftName at n ss)))
    name-free later at n ss is h =
        fold-free later at (p.Whole at (number_of (scope.names n))) (steps-of scope n ss) (or_none (test (number_of (scope.names n))) false is refl)
        (name-steps (λ j. test j ≡ false) Quiet scope n ss is (selects-quiet ss h))

    mutual
      -- none of a left side's names passes the test
      pub left-free : (later : Bool) (l : x.Left) → LeftAll (λ n ss. (test (number_of (scope.names n)) ≡ false) × SelectsHave (IsPlain timed) ss) l → Free test (target_sites later (t.target scope l))
      left-free later (x.LeftName at n ss) h = name-free later at n ss h.0 h.1
      left-free later (x.LeftList at ls) h = lefts-free later ls h

      lefts-free : (later : Bool) (ls : x.Lefts) → LeftsAll (λ n ss. (test (number_of (scope.names n)) ≡ false) × SelectsHave (IsPlain timed) ss) ls → Free test (targets_sites later (t.targets scope ls))
      lefts-free later x.NoLefts h = refl
      lefts-free later (x.MoreLefts l ls) h =
          free-both test (target_sites later (t.target scope l)) (targets_sites later (t.targets scope ls)) (left-free later l h.0) (lefts-free later ls h.1)
