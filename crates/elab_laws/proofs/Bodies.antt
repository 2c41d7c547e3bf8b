-- Statements in a design: a process assigns none of the signals that no name of a variable or a memory stands for, asks for the time
-- only where it may, reads no answer but that of the call right before, and calls `$save` with names that are fit for files.
use Rattle.std.proofs.Common.{◌≡◌, ℕ, Bool, true, false, true≢false, if◌then◌else◌, ⊎_elim, inr, List, [], ◌++◌, Option, Some, refl, sym, ◌∙◌, subst}
use Rattle.std.specs.Prelude.{codes}
use Rattle.std.specs.Str.{bytes_eq}
use Rattle.vl_sound.specs.vl_base.specs.declared.place.Place.{Place}
use Rattle.vl_sound.specs.vl_tree.specs.declared.tree.UnaryOperator.TheVariants.{LogicalNot}
use Rattle.vl_sound.specs.vl_uses.specs.Nodes.{is_load}
use Rattle.ten_plan.specs.vl_design.specs.Syntax as d
use Rattle.ten_plan.specs.vl_design.specs.Nodes.{has, some_have, target_has, items_have}
use Rattle.ten_plan.specs.vl_design.specs.Reads.{is_timed, stm_timed}
use Rattle.ten_plan.specs.vl_design.specs.Placed as p
use Rattle.ten_plan.specs.vl_design.specs.Plainly as plain
use Rattle.ten_plan.specs.vl_design.proofs.Resting.{or_none}
use Rattle.vl_accept.specs.vl_sites.specs.Answers.{is_answer, asks_before, items_ask_before}
use Rattle.vl_accept.specs.vl_sites.specs.Sites.{bare, first_bare, loaded, call_sites, exp_sites, exps_sites, args_sites, target_sites, is_head, header_sites, head_sites, sites, all_sites, items_sites}
use Rattle.vl_sound.specs.vl_flat.specs.declared.binding.Binding.{Binding}
use Rattle.vl_sound.specs.vl_flat.specs.declared.binding.Binding.TheVariants as b
use Rattle.vl_sound.specs.vl_flat.specs.Surface as x
use Rattle.vl_sound.specs.vl_flat.specs.Scopes.{Scope, number_of}
use Rattle.vl_sound.specs.vl_flat.specs.Expressions as e
use Rattle.vl_sound.specs.vl_flat.specs.Targets as t
use Rattle.vl_sound.specs.vl_flat.specs.Statements as s
use Rattle.vl_sound.specs.Used.{Classes, IsMemoryName, IsLoad}
use Rattle.vl_sound.specs.Agreeing.{Agrees}
use Rattle.elab_laws.proofs.Lefts.{left-weaker, left-plain}
use Rattle.elab_laws.proofs.Leaves.{Has, SelectsHave, ArgsHave, is_fill, IsPlain, IsStored, IsFilled, IsOnFiles, IsTask, IsSide, IsTest, IsStoredName, IsLeft, IsBody, AreBodies, HaveBodies}
use Rattle.elab_laws.proofs.Allowed.{call-loads}
use Rattle.elab_laws.proofs.Texts.{IsTimeless, task-timeless, task-none}
use Rattle.elab_laws.proofs.Tasks.{other-named, files-no-save}
use Rattle.elab_laws.proofs.Nodes.{Named, ItemsNamed}
use Rattle.elab_laws.proofs.Unrolled.{behind-none}
use Rattle.elab_laws.proofs.Leads.{system-so, first-timeless, IsLead, IsTestLead, none-lead, lead-test, first-asks, IsNamedLead, none-named, first-named}
use Rattle.elab_laws.proofs.Quiet.{Free, free-both, exp-quiet, first-quiet, args-quiet, labels-quiet, left-timeless, left-none, left-free}

-- ---- the leaves of a task's arguments

module _ (timed : Bool) (k : Classes) where
  memory-has : (a : x.Ex) → IsMemoryName k a → Has (IsPlain timed) a
  memory-has (x.Named q n x.NoSelects) h = (tt, tt)
  memory-has a h = absurd h

  load-has : (given : x.Args) → IsLoad k given → ArgsHave (IsPlain timed) given
  load-has (x.MoreArgs (x.Text at text) (x.MoreArgs a x.NoArgs)) h = (tt, (memory-has a h, tt))
  load-has given h = absurd h

  task-has : (name : List ℕ) (given : x.Args) → IsTask k timed name given → ArgsHave (IsPlain timed) given
  task-has name given h = by (is_load name) refl
    where
      by : (u : Bool) → is_load name ≡ u → ArgsHave (IsPlain timed) given
      by true q = load-has given (h.loaded q)
      by false q = h.read q

module _ (test : ℕ → Bool) (timed : Bool) (k : Classes) (scope : Scope) (stored : (n : List ℕ) → IsStored (k.read n) → test (number_of (scope.names n)) ≡ false) (path : List ℕ) where
  -- ---- what calls fill and load

  bare-free : (word : Bool) (at : Place) (o : Option Binding) → test (number_of o) ≡ false → Free test (bare word (e.whole at o))
  bare-free word at (Some (b.Signal j y)) h = or_none (test j) false h refl
  bare-free word at o h = refl

  filled-free : (keeps : Bool) (given : x.Args) → IsFilled k given → Free test (first_bare false (e.args scope keeps given))
  filled-free true (x.MoreArgs (x.Named at n x.NoSelects) others) h = bare-free false at (scope.names n) (stored n (subst IsStored (sym h) tt))
  filled-free false (x.MoreArgs (x.Named at n x.NoSelects) others) h = bare-free false at (scope.names n) (stored n (subst IsStored (sym h) tt))
  filled-free keeps given h = absurd h

  loaded-one : (a : x.Ex) → IsMemoryName k a → Free test (first_bare true (e.argument true a (e.exp scope a) p.NoArgs))
  loaded-one (x.Named q n x.NoSelects) h = bare-free true q (scope.names n) (stored n (subst IsStored (sym h) tt))
  loaded-one a h = absurd h

  loaded-free : (keeps : Bool) (given : x.Args) → IsLoad k given → Free test (loaded (e.args scope keeps given))
  loaded-free true (x.MoreArgs (x.Text at text) (x.MoreArgs a x.NoArgs)) h = loaded-one a h
  loaded-free false (x.MoreArgs (x.Text at text) (x.MoreArgs a x.NoArgs)) h = refl
  loaded-free keeps given h = absurd h

  call-free : (name : List ℕ) (given : p.Args) → (is_load name ≡ true → Free test (loaded given)) → (is_fill name ≡ true → Free test (first_bare false given)) → (is_load name ≡ false → Free test (args_sites given))
      → Free test (call_sites name given (args_sites given))
  call-free name given l f r = by (is_load name) (is_fill name) l f r
    where
      by : (u w : Bool) → (u ≡ true → Free test (loaded given)) → (w ≡ true → Free test (first_bare false given)) → (u ≡ false → Free test (args_sites given))
          → Free test (if u then loaded given else (if w then first_bare false given else []) ++ args_sites given)
      by true w l f r = l refl
      by false true l f r = free-both test (first_bare false given) (args_sites given) (f refl) (r refl)
      by false false l f r = r refl

  -- ---- right sides and conditions

  pub record SideQuiet (a : p.Exp) : Type 0 where
    pub sites : Free test (exp_sites a)
    pub time : timed ≡ false → IsTimeless (plain.exp a)
    pub asks : Agrees k scope → IsLead path a
    pub named : IsNamedLead path a

  record TestQuiet (a : p.Exp) : Type 0 where
    sites : Free test (exp_sites a)
    time : timed ≡ false → IsTimeless (plain.exp a)
    asks : Agrees k scope → IsTestLead path a
    named : IsNamedLead path a

  plain-quiet : (a : x.Ex) → Has (IsPlain timed) a → SideQuiet (e.exp scope a)
  plain-quiet a v =
      let q = exp-quiet test timed scope a v in
      record { sites = q.sites; time = q.time; asks = λ g. none-lead path (e.exp scope a) q.answers; named = none-named path (e.exp scope a) q.answers }

  files-quiet : (at : Place) (name : List ℕ) (given : x.Args) → IsOnFiles k timed name given → ArgsHave (IsPlain timed) given → SideQuiet (e.exp scope (x.System at name given))
  files-quiet at name given h g =
      let keeps = e.keeps_texts name in
      let args = e.args scope keeps given in
      let first = first-quiet test timed scope at given g in
      let more = args-quiet test timed scope keeps given g in
      system-so SideQuiet at (bytes_eq name (codes "$signed")) (bytes_eq name (codes "$unsigned")) (bytes_eq name (codes "$time")) (e.first_of scope at given) (p.Sys at name args)
      (λ s. record { sites = first.sites; time = λ z. absurd (true≢false (sym h.timely ∙ z)); asks = λ g. first.answers; named = tt })
      (record { sites = refl; time = λ z. absurd (true≢false (sym h.timely ∙ z)); asks = λ g. refl; named = tt })
      (record {
        sites = call-free name args (λ z. absurd (true≢false (sym z ∙ call-loads k timed name given (inr h)))) (λ z. filled-free keeps given (h.filled z)) (λ z. more.sites);
        time = λ z. absurd (true≢false (sym h.timely ∙ z));
        asks = λ g. (h.answers path scope g, more.answers);
        named = other-named path name (plain.args args) (files-no-save name h.named);
      })

  pub side-quiet : (a : x.Ex) → IsSide k timed a → SideQuiet (e.exp scope a)
  side-quiet (x.System at name given) v = ⊎_elim (λ h. plain-quiet (x.System at name given) (h, v.1)) (λ h. files-quiet at name given h v.1) v.0
  side-quiet (x.Paren at a) v = side-quiet a v
  side-quiet a v = plain-quiet a v

  test-quiet : (a : x.Ex) → IsTest k timed a → TestQuiet (e.exp scope a)
  test-quiet (x.Unary at LogicalNot a) v = let q = side-quiet a v in record { sites = q.sites; time = q.time; asks = q.asks; named = q.named }
  test-quiet (x.Paren at a) v = test-quiet a v
  test-quiet a v = let q = side-quiet a v in record { sites = q.sites; time = q.time; asks = λ g. lead-test path (e.exp scope a) (q.asks g); named = q.named }

  -- ---- left sides

  side-free : (later : Bool) (l : x.Left) → IsLeft k timed l → Free test (target_sites later (t.target scope l))
  side-free later l v =
      left-free test timed scope later l
      (left-weaker (IsStoredName k timed) (λ n ss. (test (number_of (scope.names n)) ≡ false) × SelectsHave (IsPlain timed) ss) (λ n ss u. (stored n u.0, u.1)) l v)

  -- ---- statements

  pub record StmQuiet (a : p.Stm) : Type 0 where
    pub sites : Free test (sites a)
    pub time : timed ≡ false → stm_timed (plain.stm path a) ≡ false
    pub asks : Agrees k scope → asks_before (plain.stm path a) ≡ false
    pub named : Named (plain.stm path a)

  record StmsQuiet (as' : p.Stms) : Type 0 where
    sites : Free test (all_sites as')
    time : timed ≡ false → stm_timed (plain.stms path as') ≡ false
    asks : Agrees k scope → asks_before (plain.stms path as') ≡ false
    named : Named (plain.stms path as')

  record ItemsQuiet (is : p.Items) : Type 0 where
    sites : Free test (items_sites is)
    time : timed ≡ false → items_have is_timed (λ task. false) (plain.items path is) ≡ false
    asks : Agrees k scope → items_ask_before (plain.items path is) ≡ false
    named : ItemsNamed (plain.items path is)

  abbrev target-of : x.Left → p.Target
  target-of l = t.target scope l

  abbrev exp-of : x.Ex → p.Exp
  exp-of a = e.exp scope a

  set-quiet : (at : Place) (l : x.Left) (a : x.Ex) → IsLeft k timed l → IsSide k timed a → StmQuiet (p.Set at (t.target scope l) (e.exp scope a))
  set-quiet at l a v w =
      let side = side-quiet a w in
      record {
        sites = free-both test (target_sites false (target-of l)) (exp_sites (exp-of a)) (side-free false l v) side.sites;
        time = λ z. first-timeless path (exp-of a) (d.Set (plain.target (target-of l)) (plain.exp (exp-of a))) (side.time z)
            (or_none (target_has is_timed (plain.target (target-of l))) (has is_timed (plain.exp (exp-of a))) (left-timeless test timed scope z l (left-plain timed k l v)) (side.time z));
        asks = λ g. first-asks path (exp-of a) (d.Set (plain.target (target-of l)) (plain.exp (exp-of a))) (lead-test path (exp-of a) (side.asks g))
            (λ u. or_none (target_has is_answer (plain.target (target-of l))) (has is_answer (plain.exp (exp-of a))) (left-none test timed scope l (left-plain timed k l v)) u);
        named = first-named path (exp-of a) (d.Set (plain.target (target-of l)) (plain.exp (exp-of a))) side.named tt;
      }

  later-quiet : (at : Place) (l : x.Left) (a : x.Ex) → IsLeft k timed l → IsSide k timed a → StmQuiet (p.Later at (t.target scope l) (e.exp scope a))
  later-quiet at l a v w =
      let side = side-quiet a w in
      record {
        sites = free-both test (target_sites true (target-of l)) (exp_sites (exp-of a)) (side-free true l v) side.sites;
        time = λ z. first-timeless path (exp-of a) (d.Later (plain.target (target-of l)) (plain.exp (exp-of a))) (side.time z)
            (or_none (target_has is_timed (plain.target (target-of l))) (has is_timed (plain.exp (exp-of a))) (left-timeless test timed scope z l (left-plain timed k l v)) (side.time z));
        asks = λ g. first-asks path (exp-of a) (d.Later (plain.target (target-of l)) (plain.exp (exp-of a))) (lead-test path (exp-of a) (side.asks g))
            (λ u. or_none (target_has is_answer (plain.target (target-of l))) (has is_answer (plain.exp (exp-of a))) (left-none test timed scope l (left-plain timed k l v)) u);
        named = first-named path (exp-of a) (d.Later (plain.target (target-of l)) (plain.exp (exp-of a))) side.named tt;
      }

  -- a header of a loop
  header-free : (at : Place) (a : p.Target) (v : p.Exp) → Free test (exp_sites v) → Free test (header_sites (p.Set at a v))
  header-free at (p.Whole q j) v h = h
  header-free at a v h = refl

  head-free : (j : ℕ) (at : Place) (l : x.Left) (a : x.Ex) → IsLeft k timed l → IsSide k timed a
      → Free test (head_sites j (p.Set at (t.target scope l) (e.exp scope a)) (sites (p.Set at (t.target scope l) (e.exp scope a))))
  head-free j at l a v w = by (is_head j (p.Set at (target-of l) (exp-of a)))
    where
      by : (u : Bool) → Free test (if u then header_sites (p.Set at (t.target scope l) (e.exp scope a)) else sites (p.Set at (t.target scope l) (e.exp scope a)))
      by true = header-free at (t.target scope l) (e.exp scope a) (side-quiet a w).sites
      by false = (set-quiet at l a v w).sites

  labelled-timeless : (es : p.Exps) (a : d.Stm) (others : d.Items) → some_have is_timed (plain.exps es) ≡ false → stm_timed a ≡ false → items_have is_timed (λ task. false) others ≡ false
      → items_have is_timed (λ task. false) (plain.item es a others) ≡ false
  labelled-timeless p.NoExps a others h g i = or_none (stm_timed a) (items_have is_timed (λ task. false) others) g i
  labelled-timeless (p.MoreExps v es) a others h g i = or_none (some_have is_timed (plain.exps (p.MoreExps v es))) _ h (or_none (stm_timed a) (items_have is_timed (λ task. false) others) g i)

  labelled-ask : (es : p.Exps) (a : d.Stm) (others : d.Items) → some_have is_answer (plain.exps es) ≡ false → asks_before a ≡ false → items_ask_before others ≡ false → items_ask_before (plain.item es a others) ≡ false
  labelled-ask p.NoExps a others h g i = or_none (asks_before a) (items_ask_before others) g i
  labelled-ask (p.MoreExps v es) a others h g i = or_none (some_have is_answer (plain.exps (p.MoreExps v es))) _ h (or_none (asks_before a) (items_ask_before others) g i)

  labelled-named : (es : p.Exps) (a : d.Stm) (others : d.Items) → Named a → ItemsNamed others → ItemsNamed (plain.item es a others)
  labelled-named p.NoExps a others g i = (g, i)
  labelled-named (p.MoreExps v es) a others g i = (g, i)

  task-quiet : (at : Place) (name : List ℕ) (given : x.Args) → IsTask k timed name given → StmQuiet (s.statement scope (x.Task at name given))
  task-quiet at name given h =
      let keeps = e.keeps_texts name in
      let args = e.args scope keeps given in
      let q = args-quiet test timed scope keeps given (task-has timed k name given h) in
      record {
        sites = call-free name args (λ z. loaded-free keeps given (h.loaded z)) (λ z. filled-free keeps given (h.filled z)) (λ z. q.sites);
        time = λ z. task-timeless path name (plain.args args) (q.time z);
        asks = λ g. task-none path name (plain.args args) q.answers;
        named = h.saves path scope;
      }

  mutual
    pub statement-quiet : (a : x.Statement) → IsBody k timed a → StmQuiet (s.statement scope a)
    statement-quiet (x.Null at) v = record { sites = refl; time = λ z. refl; asks = λ g. refl; named = tt }
    statement-quiet (x.Block at as') v = let q = statements-quiet as' v in record { sites = q.sites; time = q.time; asks = q.asks; named = q.named }
    statement-quiet (x.If at y a c) v =
        let q = test-quiet y v.0 in
        let one = statement-quiet a v.1 in
        let two = statement-quiet c v.2 in
        let a' = s.statement scope a in
        let c' = s.statement scope c in
        record {
          sites = free-both test (exp_sites (exp-of y)) (sites a' ++ sites c') q.sites (free-both test (sites a') (sites c') one.sites two.sites);
          time = λ z. first-timeless path (exp-of y) (d.If (plain.exp (exp-of y)) (plain.stm path a') (plain.stm path c')) (q.time z)
              (or_none (has is_timed (plain.exp (exp-of y))) _ (q.time z) (or_none (stm_timed (plain.stm path a')) (stm_timed (plain.stm path c')) (one.time z) (two.time z)));
          asks = λ g. first-asks path (exp-of y) (d.If (plain.exp (exp-of y)) (plain.stm path a') (plain.stm path c')) (q.asks g)
              (λ u. or_none (has is_answer (plain.exp (exp-of y))) _ u (or_none (asks_before (plain.stm path a')) (asks_before (plain.stm path c')) (one.asks g) (two.asks g)));
          named = first-named path (exp-of y) (d.If (plain.exp (exp-of y)) (plain.stm path a') (plain.stm path c')) q.named (one.named, two.named);
        }
    statement-quiet (x.Case at wild y items) v =
        let q = exp-quiet test timed scope y v.0 in
        let more = items-quiet wild items v.1 in
        record {
          sites = free-both test (exp_sites (exp-of y)) (items_sites (s.case_items scope wild items)) q.sites more.sites;
          time = λ z. or_none (has is_timed (plain.exp (exp-of y))) (items_have is_timed (λ task. false) (plain.items path (s.case_items scope wild items))) (q.time z) (more.time z);
          asks = λ g. or_none (has is_answer (plain.exp (exp-of y))) (items_ask_before (plain.items path (s.case_items scope wild items))) q.answers (more.asks g);
          named = more.named;
        }
    statement-quiet (x.For at l a y l' a' body) v =
        let j = number_of (scope.names (s.first_name l)) in
        let first = s.set scope l a in
        let next = s.set scope l' a' in
        let start = set-quiet (x.left_place l) l a v.0 v.1 in
        let q = exp-quiet test timed scope y v.2 in
        let step = set-quiet (x.left_place l') l' a' v.3 v.4 in
        let inner = statement-quiet body v.5 in
        let b' = s.statement scope body in
        record {
          sites = free-both test (head_sites j first (sites first)) _ (head-free j (x.left_place l) l a v.0 v.1)
              (free-both test (exp_sites (exp-of y)) _ q.sites (free-both test (head_sites j next (sites next)) (sites b') (head-free j (x.left_place l') l' a' v.3 v.4) inner.sites));
          time = λ z. or_none (stm_timed (plain.stm path first)) _ (start.time z)
              (or_none (has is_timed (plain.exp (exp-of y))) _ (q.time z) (or_none (stm_timed (plain.stm path next)) (stm_timed (plain.stm path b')) (step.time z) (inner.time z)));
          asks = λ g. or_none (asks_before (plain.stm path first)) _ (start.asks g)
              (or_none (has is_answer (plain.exp (exp-of y))) _ q.answers (or_none (asks_before (plain.stm path next)) (asks_before (plain.stm path b')) (step.asks g) (inner.asks g)));
          named = (tt, start.named, step.named, inner.named);
        }
    statement-quiet (x.Repeat at n a) v = let q = statement-quiet a v in record { sites = q.sites; time = q.time; asks = q.asks; named = q.named }
    statement-quiet (x.Assign at true l a) v = set-quiet at l a v.0 v.1
    statement-quiet (x.Assign at false l a) v = later-quiet at l a v.0 v.1
    statement-quiet (x.Task at name given) v = task-quiet at name given v

    statements-quiet : (as' : x.Statements) → AreBodies k timed as' → StmsQuiet (s.statements scope as')
    statements-quiet x.NoStatements v = record { sites = refl; time = λ z. refl; asks = λ g. refl; named = tt }
    statements-quiet (x.MoreStatements a as') v =
        let one = statement-quiet a v.0 in
        let more = statements-quiet as' v.1 in
        record {
          sites = free-both test (sites (s.statement scope a)) (all_sites (s.statements scope as')) one.sites more.sites;
          time = λ z. or_none (stm_timed (plain.stm path (s.statement scope a))) (stm_timed (plain.stms path (s.statements scope as'))) (one.time z) (more.time z);
          asks = λ g. behind-none (plain.stm path (s.statement scope a)) (plain.stms path (s.statements scope as')) (one.asks g) (more.asks g);
          named = (one.named, more.named);
        }

    items-quiet : (wild : Bool) (items : x.CaseItems) → HaveBodies k timed items → ItemsQuiet (s.case_items scope wild items)
    items-quiet wild x.NoItems v = record { sites = refl; time = λ z. refl; asks = λ g. refl; named = tt }
    items-quiet wild (x.Labelled es a others) v =
        let labels = labels-quiet test timed scope wild es v.0 in
        let one = statement-quiet a v.1 in
        let more = items-quiet wild others v.2 in
        let es' = e.labels scope wild es in
        let a' = s.statement scope a in
        let others' = s.case_items scope wild others in
        record {
          sites = free-both test (exps_sites es') (sites a' ++ items_sites others') labels.sites (free-both test (sites a') (items_sites others') one.sites more.sites);
          time = λ z. labelled-timeless es' (plain.stm path a') (plain.items path others') (labels.time z) (one.time z) (more.time z);
          asks = λ g. labelled-ask es' (plain.stm path a') (plain.items path others') labels.answers (one.asks g) (more.asks g);
          named = labelled-named es' (plain.stm path a') (plain.items path others') one.named more.named;
        }
    items-quiet wild (x.Default a others) v =
        let one = statement-quiet a v.0 in
        let more = items-quiet wild others v.1 in
        record {
          sites = free-both test (sites (s.statement scope a)) (items_sites (s.case_items scope wild others)) one.sites more.sites;
          time = λ z. or_none (stm_timed (plain.stm path (s.statement scope a))) (items_have is_timed (λ task. false) (plain.items path (s.case_items scope wild others))) (one.time z) (more.time z);
          asks = λ g. or_none (asks_before (plain.stm path (s.statement scope a))) (items_ask_before (plain.items path (s.case_items scope wild others))) (one.asks g) (more.asks g);
          named = (one.named, more.named);
        }
