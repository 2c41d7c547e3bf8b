-- What assignments and calls do in two states, of which one is behind the other.
use Rattle.std.proofs.Common.{◌≡◌, ℕ, ◌+◌, Bool, true, false, List, [], ◌++◌, Option, Some, None, refl, sym, ◌∙◌, ap, subst, append_assoc, arith}
use Rattle.std.specs.Prelude.{◌||◌, ◌&&◌, not, if◌then◌else◌, slice_set, slice_get, codes}
use Rattle.vl_base.specs.declared.files.OpenFile.{OpenFile}
use Rattle.vl_base.specs.Files as file
use Rattle.vl_design.specs.Syntax.{Exp, Target, Task, Print, Finish, Save, Fopen, Fread, Fgetc, Feof, Fclose, ReadHex, Row}
use Rattle.vl_design.specs.Width.{Scope, signal_form}
use Rattle.vl_design.specs.Value.{words_of, value_of}
use Rattle.vl_design.specs.State.{State, Update, sample, counted, all_updated}
use Rattle.vl_design.specs.Targets.{assignment}
use Rattle.vl_design.specs.Tasks.{pieces_text, descriptor_of, called, memory_read}
use Rattle.vl_design.specs.Exec.{counted_if, restored}
use Rattle.vl_design.specs.Nodes.{arguments_have}
use Rattle.vl_sites.specs.Answers.{is_answer, gives_answer}
use Rattle.vl_sites.specs.Behind.{IsBehind}
use Rattle.vl_sites.proofs.Reading.{May, Same, reads, target_reads, assignment_same, text_same, descriptor_same}

module _ (first : State) where
  -- the state of the whole run, where its answer is x
  abbrev pub behind : ℕ → State → State
  behind x s = record s { printed = first.printed ++ s.printed; count = first.count + s.count; answer = x }

  -- t is the state of the whole run, with the same answer, where answers are known
  pub record Leads (w : Bool) (s t : State) : Type 0 where
    pub x : ℕ
    pub same : t ≡ behind x s
    pub known : Same w x s.answer

  pub weakly : (w : Bool) {s t : State} → Leads true s t → Leads w s t
  weakly true d = d
  weakly false d = record { x = d.x; same = d.same; known = tt }

  -- ---- states that are behind

  fields : (v v' : List (List ℕ)) (l l' : List Update) (p p' : List ℕ) (t t' : List OpenFile) (z z' : List (List ℕ)) (x k k' : ℕ) (f f' : Bool) (c c' : ℕ) →
      v ≡ v' → l ≡ l' → p ≡ p' → t ≡ t' → z ≡ z' → k ≡ k' → f ≡ f' → c ≡ c' →
      (let a : State = record { values = v; later = l; printed = p; table = t; saves = z; answer = x; ticks = k; finished = f; count = c } in
      let b : State = record { values = v'; later = l'; printed = p'; table = t'; saves = z'; answer = x; ticks = k'; finished = f'; count = c' } in
      a ≡ b)
  fields v v' l l' p p' t t' z z' x k k' f f' c c' e1 e2 e3 e4 e5 e6 e7 e8 = rw (e1, e2, e3, e4, e5, e6, e7, e8) refl

  pub of_behind : (s t : State) → IsBehind first s t → Leads false s t
  of_behind s t b = record { x = t.answer; same = fields _ _ _ _ _ _ _ _ _ _ t.answer _ _ _ _ _ _ b.values b.later b.printed b.table b.saves b.ticks b.finished b.count; known = tt }

  pub to_behind : {s t : State} → Leads false s t → IsBehind first s t
  to_behind d = record {
    values = ap (λ (z : State). z.values) d.same;
    later = ap (λ (z : State). z.later) d.same;
    printed = ap (λ (z : State). z.printed) d.same;
    table = ap (λ (z : State). z.table) d.same;
    saves = ap (λ (z : State). z.saves) d.same;
    ticks = ap (λ (z : State). z.ticks) d.same;
    finished = ap (λ (z : State). z.finished) d.same;
    count = ap (λ (z : State). z.count) d.same;
  }

  one_more : (n : ℕ) → first.count + n + 1 ≡ first.count + (n + 1)
  one_more n = omega arith

  module _ (w : Bool) where
    -- what leads on from a state and from the one behind it leads on from any such two
    pub on : (f g : State → State) → ((s : State) (x : ℕ) → Same w x s.answer → Leads w (f s) (g (behind x s))) → (s t : State) → Leads w s t → Leads w (f s) (g t)
    on f g h s t d = subst (λ z. Leads w (f s) (g z)) (sym d.same) (h s d.x d.known)

    pub leads_by : (b c : Bool) (s x t y : State) → b ≡ c → Leads w s t → Leads w x y → Leads w (if b then s else x) (if c then t else y)
    leads_by true true s x t y e d f = d
    leads_by false false s x t y e d f = f
    leads_by true false s x t y e d f = let z : ⊥ = cc in absurd z
    leads_by false true s x t y e d f = let z : ⊥ = cc in absurd z

    pub counted_leads : (s t : State) → Leads w s t → Leads w (counted s) (counted t)
    counted_leads s t d = on counted counted (λ s x k. record { x = x; same = ap (λ n. record (behind x s) { count = n }) (one_more s.count); known = k }) s t d

    pub finished_same : {s t : State} → Leads w s t → s.finished ≡ t.finished
    finished_same d = sym (ap (λ (z : State). z.finished) d.same)

    pub choice_leads : (b c : Bool) (s t : State) → b ≡ c → Leads w s t → Leads w (counted_if b s) (counted_if c t)
    choice_leads b c s t e d = leads_by (b && not s.finished) (c && not t.finished) (counted s) s (counted t) t (rw (e, finished_same d) refl) (counted_leads s t d) d

    pub restored_leads : (k : ℕ) (s t y z : State) → Leads w s t → Leads w y z → Leads w (restored k s y) (restored k t z)
    restored_leads k s t y z d e = record {
      x = e.x;
      same = ap (restored k t) e.same ∙ ap (λ (u : State). record (behind e.x y) { values = slice_set y.values k (words_of u.values k) }) d.same;
      known = e.known;
    }

    module _ (scope : Scope) where
      pub sets_lead : (u : Target) (e : Exp) → May w (target_reads u || reads e) → (s t : State) → Leads w s t →
          Leads w (record s { values = all_updated scope.names.rows s.values (assignment scope (sample s) u e) }) (record t { values = all_updated scope.names.rows t.values (assignment scope (sample t) u e) })
      sets_lead u e h = on (λ s. record s { values = all_updated scope.names.rows s.values (assignment scope (sample s) u e) }) (λ s. record s { values = all_updated scope.names.rows s.values (assignment scope (sample s) u e) })
          (λ s x k. record { x = x; same = ap (λ us. record (behind x s) { values = all_updated scope.names.rows s.values us }) (assignment_same scope s.values s.ticks x s.answer w k u e h); known = k })

      pub delays_lead : (u : Target) (e : Exp) → May w (target_reads u || reads e) → (s t : State) → Leads w s t →
          Leads w (record s { later = s.later ++ assignment scope (sample s) u e }) (record t { later = t.later ++ assignment scope (sample t) u e })
      delays_lead u e h = on (λ s. record s { later = s.later ++ assignment scope (sample s) u e }) (λ s. record s { later = s.later ++ assignment scope (sample s) u e })
          (λ s x k. record { x = x; same = ap (λ us. record (behind x s) { later = s.later ++ us }) (assignment_same scope s.values s.ticks x s.answer w k u e h); known = k })

      memory_leads : (m : ℕ) (r : Option Row) (text : Option (List ℕ)) (s : State) (x : ℕ) → Same w x s.answer →
          Leads w (counted (memory_read m r text s)) (counted (memory_read m r text (behind x s)))
      memory_leads m None text s x k = counted_leads s (behind x s) (record { x = x; same = refl; known = k })
      memory_leads m (Some r) None s x k = counted_leads s (behind x s) (record { x = x; same = refl; known = k })
      memory_leads m (Some r) (Some text) s x k = counted_leads _ _ (record { x = x; same = refl; known = k })

      -- behind a call that gives an answer answers are known
      answer_leads : (task : Task) → gives_answer task ≡ true → May w (arguments_have is_answer task) → (s : State) (x : ℕ) → Same w x s.answer →
          Leads true (called scope task s) (called scope task (behind x s))
      answer_leads (Print pieces newline) g h s x k = let z : ⊥ = cc in absurd z
      answer_leads (Finish es) g h s x k = let z : ⊥ = cc in absurd z
      answer_leads (Save name) g h s x k = let z : ⊥ = cc in absurd z
      answer_leads (Fopen name) g h s x k = record {
        x = (file.opened scope.files s.table name).answer;
        same = ap (λ n. record (behind (file.opened scope.files s.table name).answer s) { table = (file.opened scope.files s.table name).table; count = n }) (one_more s.count);
        known = refl;
      }
      answer_leads (Fread j fd) g h s x k =
          let r = λ (n : ℕ). file.read scope.files s.table n (signal_form scope.names.rows j).width (value_of s.values j) in
          let n = descriptor_of scope (sample s) fd in
          let values = λ (n : ℕ). slice_set s.values j (slice_set (words_of s.values j) 0 (r n).value) in
          record {
            x = (r n).count;
            same =
                ap (λ m. record (behind (r m).count s) { values = values m; table = (r m).table; count = first.count + s.count + 1 }) (descriptor_same scope s.values s.ticks x s.answer w k fd h)
                ∙ ap (λ c. record (behind (r n).count s) { values = values n; table = (r n).table; count = c }) (one_more s.count);
            known = refl;
          }
      answer_leads (Fgetc fd) g h s x k =
          let r = λ (n : ℕ). file.next_character scope.files s.table n in
          let n = descriptor_of scope (sample s) fd in
          record {
            x = (r n).answer;
            same =
                ap (λ m. record (behind (r m).answer s) { table = (r m).table; count = first.count + s.count + 1 }) (descriptor_same scope s.values s.ticks x s.answer w k fd h)
                ∙ ap (λ c. record (behind (r n).answer s) { table = (r n).table; count = c }) (one_more s.count);
            known = refl;
          }
      answer_leads (Feof fd) g h s x k =
          let n = descriptor_of scope (sample s) fd in
          record {
            x = file.at_end s.table n;
            same =
                ap (λ m. record (behind (file.at_end s.table m) s) { count = first.count + s.count + 1 }) (descriptor_same scope s.values s.ticks x s.answer w k fd h)
                ∙ ap (λ c. record (behind (file.at_end s.table n) s) { count = c }) (one_more s.count);
            known = refl;
          }
      answer_leads (Fclose fd) g h s x k = let z : ⊥ = cc in absurd z
      answer_leads (ReadHex name m) g h s x k = let z : ⊥ = cc in absurd z

      call_leads : (task : Task) → May w (arguments_have is_answer task) → (s : State) (x : ℕ) → Same w x s.answer → Leads w (called scope task s) (called scope task (behind x s))
      call_leads (Print pieces newline) h s x k =
          let text = λ (ts : List ℕ). ts ++ (if newline then codes "\n" else []) in
          let ts = pieces_text scope (sample s) pieces in
          record {
            x = x;
            same =
                ap (λ us. record (behind x s) { printed = (first.printed ++ s.printed) ++ text us; count = first.count + s.count + 1 }) (text_same scope s.values s.ticks x s.answer w k pieces h)
                ∙ (ap (λ us. record (behind x s) { printed = us; count = first.count + s.count + 1 }) (append_assoc first.printed s.printed (text ts))
                ∙ ap (λ c. record (behind x s) { printed = first.printed ++ (s.printed ++ text ts); count = c }) (one_more s.count));
            known = k;
          }
      call_leads (Finish es) h s x k = counted_leads _ _ (record { x = x; same = refl; known = k })
      call_leads (Save name) h s x k = counted_leads _ _ (record { x = x; same = refl; known = k })
      call_leads (Fopen name) h s x k = weakly w (answer_leads (Fopen name) refl h s x k)
      call_leads (Fread j fd) h s x k = weakly w (answer_leads (Fread j fd) refl h s x k)
      call_leads (Fgetc fd) h s x k = weakly w (answer_leads (Fgetc fd) refl h s x k)
      call_leads (Feof fd) h s x k = weakly w (answer_leads (Feof fd) refl h s x k)
      call_leads (Fclose fd) h s x k =
          counted_leads _ _ (record { x = x; same = ap (λ n. record (behind x s) { table = file.closed s.table n }) (descriptor_same scope s.values s.ticks x s.answer w k fd h); known = k })
      call_leads (ReadHex name m) h s x k = memory_leads m (slice_get scope.names.rows m) (file.contents scope.files name) s x k

      pub calls_lead : (task : Task) → May w (arguments_have is_answer task) → (s t : State) → Leads w s t → Leads w (called scope task s) (called scope task t)
      calls_lead task h = on (called scope task) (called scope task) (call_leads task h)

      pub answers_lead : (task : Task) → gives_answer task ≡ true → May w (arguments_have is_answer task) → (s t : State) → Leads w s t → Leads true (called scope task s) (called scope task t)
      answers_lead task g h s t d = subst (λ z. Leads true (called scope task s) (called scope task z)) (sym d.same) (answer_leads task g h s d.x d.known)
