-- One more state, or two.
use Rattle.std.proofs.Common.{◌≡◌, ◌≢◌, ℕ, zero, suc, ◌+◌, ◌≤◌, false, List, [], ◌∷◌, ◌++◌, length, length-append, drop, Some, None, inl, inr, refl, sym, ap, ◌∙◌, arith, subst}
use Rattle.std.specs.Prelude.{slice_get, ◌⊎◌}
use Rattle.std.specs.List.{AllByRecursion}
use Rattle.std.proofs.lemmas.Bool.{true≢false}
use Rattle.std.proofs.lemmas.List.{drop_all}
use Rattle.std.proofs.lemmas.Option.{slice_get_within, slice_get_cases, none-some, same_Some}
use Rattle.vl_design.specs.Syntax.{Task, Flat}
use Rattle.cell_emit.specs.cell_form.specs.Data.{CellData, StateData}
use Rattle.ten_form.specs.sub_nodes.specs.Nodes.{Segment, WayOn, Go, Branch, Switch, Commit, Node, Run, Trap, Apply}
use Rattle.ten_form.specs.sub_nodes.specs.Cycles.{is_trap}
use Rattle.ten_form.specs.sub_nodes.specs.Pairs.{ArePaired}
use Rattle.ten_form.specs.Traps.{IsTrapOf}
use Rattle.ten_form.specs.Banks.{stores_after}
use Rattle.ten_form.specs.States.{slots_in, Does, HasTrap, IsStateOf, AreStates}
use Rattle.cell_states.specs.Cells.{node_count}
use Rattle.cell_states.specs.Trims.{Calls}
use Rattle.cell_states.specs.Tables.{go_of, AreFirst}
use Rattle.cell_states.specs.Widths.{register_width, IsNarrow}
use Rattle.cell_trim.specs.Widths.{IsWithin}
use Rattle.vl_design.specs.vl_base.proofs.Lists.{drop_suc as drop-suc, get_append_left as get-before}

-- ---- lists

get-seam : {A : Type 0} (xs ys : List A) (x : A) → slice_get (xs ++ x ∷ ys) (length xs) ≡ Some x
get-seam [] ys x = refl
get-seam (z ∷ xs) ys x = get-seam xs ys x

-- of one more item, or two, each is one of those before or a new one
get-one : {A : Type 0} (xs : List A) (x s : A) (n : ℕ) → slice_get (xs ++ x ∷ []) n ≡ Some s → (slice_get xs n ≡ Some s) ⊎ ((n ≡ length xs) × (x ≡ s))
get-one [] x s zero e = inr (refl, same_Some x s e)
get-one [] x s (suc n) e = absurd (none-some s e)
get-one (z ∷ xs) x s zero e = inl e
get-one (z ∷ xs) x s (suc n) e = elim (get-one xs x s n e) [ inl h ↦ inl h | inr h ↦ inr (ap suc h.0, h.1) ]

append-two : {A : Type 0} (xs : List A) (x y : A) → xs ++ x ∷ y ∷ [] ≡ (xs ++ x ∷ []) ++ y ∷ []
append-two [] x y = refl
append-two (z ∷ xs) x y = ap (λ zs. z ∷ zs) (append-two xs x y)

drop-next : {A : Type 0} (xs : List A) (n : ℕ) (x : A) → slice_get xs n ≡ Some x → drop n xs ≡ x ∷ drop (n + 1) xs
drop-next xs n x e = let k : suc n ≡ n + 1 = omega arith in drop-suc xs n x e ∙ ap (λ j. x ∷ drop j xs) k

-- ---- states stay

module _ (d : Flat) (order : List ℕ) (nodes : List Node) where
  trap-stays : (states more : List StateData) (m : ℕ) → (t : _) → HasTrap d order states m t → HasTrap d order (states ++ more) m t
  trap-stays states more m t h = record { state = h.state; there = get-before states more m h.state h.there; trap = h.trap }

  slots-more : (task : Task) (n m : ℕ) (t : _) → n ≤ m → IsTrapOf d task n t → IsTrapOf d task m t
  slots-more task n m t le h = record { call = h.call; answer = h.answer; args = λ i a lt. (let k = h.args i a lt in omega (arith, le, k)) }

  state-stays : (number : ℕ) (n m : ℕ) (states more : List StateData) (x : Node) (s : StateData) → n ≤ m → IsStateOf d order number n nodes states x s → IsStateOf d order number m nodes (states ++ more) x s
  state-stays number n m states more (Run g (Go to)) s le h =
      let c = h.1 in
      (h.0, record { task = c.task; to = c.to; trap = c.trap; node = c.node; there = trap-stays states more to c.trap c.there; asks = c.asks })
  state-stays number n m states more (Run g (Branch t first second)) s le h = h
  state-stays number n m states more (Run g (Switch e ws other)) s le h = h
  state-stays number n m states more (Run g (Commit to)) s le h = h
  state-stays number n m states more (Trap task to) s le h = record { no_cells = h.no_cells; no_writes = h.no_writes; trap = h.trap; is = h.is; next = h.next; call = slots-more task n m h.trap le h.call }
  state-stays number n m states more (Apply to) s le h = h

  -- a state that does a node is the node's, where this comes to no call
  pub plain-run : (number : ℕ) (n : ℕ) (states : List StateData) (g : Segment) (on : WayOn) (s : StateData) → go_of on ≡ None → Does d order number (Run g on) s → IsStateOf d order number n nodes states (Run g on) s
  plain-run number n states g (Go to) s e h = absurd (none-some to (sym e))
  plain-run number n states g (Branch t first second) s e h = h
  plain-run number n states g (Switch x ws other) s e h = h
  plain-run number n states g (Commit to) s e h = h

  pub go-is : (on : WayOn) (to : ℕ) → go_of on ≡ Some to → on ≡ Go to
  go-is (Go m) to e = ap Go (same_Some m to e)
  go-is (Branch t first second) to e = absurd (none-some to e)
  go-is (Switch x ws other) to e = absurd (none-some to e)
  go-is (Commit m) to e = absurd (none-some to e)

  -- ---- the nodes that are next

  rest-plain : (n : ℕ) (x : Node) → slice_get nodes n ≡ Some x → is_trap (Some x) ≡ false → ((g : Segment) (m : ℕ) → x ≢ Run g (Go m)) → ArePaired n (drop n nodes) → ArePaired (n + 1) (drop (n + 1) nodes)
  rest-plain n x there free apart h = of x (drop (n + 1) nodes) free apart (subst (ArePaired n) (drop-next nodes n x there) h)
    where
      of : (x : Node) (xs : List Node) → is_trap (Some x) ≡ false → ((g : Segment) (m : ℕ) → x ≢ Run g (Go m)) → ArePaired n (x ∷ xs) → ArePaired (n + 1) xs
      of (Run g (Go m)) xs f a h = absurd (a g m refl)
      of (Run g (Branch t first second)) xs f a h = h
      of (Run g (Switch e ws other)) xs f a h = h
      of (Run g (Commit to)) xs f a h = h
      of (Trap task to) xs f a h = absurd (true≢false f)
      of (Apply to) xs f a h = h

  -- no call is next
  pub none-waits : (n : ℕ) (task : Task) (to : ℕ) → slice_get nodes n ≡ Some (Trap task to) → ArePaired n (drop n nodes) → ⊥
  none-waits n task to there h = subst (ArePaired n) (drop-next nodes n (Trap task to) there) h

  -- behind a segment that comes to a call, this is next
  pub record Comes (n : ℕ) (m : ℕ) : Type 0 where
    pub task : Task
    pub to : ℕ
    pub is : m ≡ n + 1
    pub node : slice_get nodes (n + 1) ≡ Some (Trap task to)
    pub rest : ArePaired (n + 2) (drop (n + 2) nodes)

  pub comes-call : (n : ℕ) (g : Segment) (m : ℕ) → slice_get nodes n ≡ Some (Run g (Go m)) → ArePaired n (drop n nodes) → Comes n m
  comes-call n g m there h =
      elim ((slice_get_cases nodes (n + 1)).1) [
        | inl c ↦ of c.0 c.2 (subst (λ xs. ArePaired n (Run g (Go m) ∷ xs)) (drop-next nodes (n + 1) c.0 c.2) paired)
        | inr c ↦ absurd (subst (λ xs. ArePaired n (Run g (Go m) ∷ xs)) (drop_all (n + 1) nodes c.0) paired)
      ]
    where
      paired : ArePaired n (Run g (Go m) ∷ drop (n + 1) nodes)
      paired = subst (ArePaired n) (drop-next nodes n (Run g (Go m)) there) h

      two : n + 1 + 1 ≡ n + 2
      two = omega arith

      of : (y : Node) → slice_get nodes (n + 1) ≡ Some y → ArePaired n (Run g (Go m) ∷ y ∷ drop (n + 1 + 1) nodes) → Comes n m
      of (Run q on) e h = absurd h
      of (Trap task to) e h = record { task = task; to = to; is = h.0; node = e; rest = subst (λ k. ArePaired (n + 2) (drop k nodes)) two h.1 }
      of (Apply to) e h = absurd h

  -- ---- one state more, and two

  module _ (states : List StateData) (n m stores : ℕ) (h : AreFirst d order nodes states n stores) (le : n ≤ m) where
    pub one-more : (x : Node) (s : StateData) (left : ℕ) → slice_get nodes (length states) ≡ Some x → is_trap (Some x) ≡ false → ((g : Segment) (k : ℕ) → x ≢ Run g (Go k)) → slots_in s.cells ≤ m → length s.cells.cells ≤ node_count d order nodes x → IsNarrow d s →
        left ≡ length (stores_after d (length states + 1)) → IsStateOf d order (length states) m nodes (states ++ s ∷ []) x s → AreFirst d order nodes (states ++ s ∷ []) m left
    one-more x s left there free apart fits few narrow less is =
        let long = length-append states (s ∷ []) in
        let lt = slice_get_within nodes (length states) x there in
        record {
          many = omega (arith, long, lt);
          fits = λ k z e. elim (get-one states s z k e) [ inl i ↦ (let f = h.fits k z i in omega (arith, f, le)) | inr i ↦ subst (λ (u : StateData). slots_in u.cells ≤ m) i.1 fits ];
          each = λ k y z e f. elim (get-one states s z k f) [
            | inl i ↦ state-stays k n m states (s ∷ []) y z le (h.each k y z e i)
            | inr i ↦ subst (λ (u : StateData). IsStateOf d order k m nodes (states ++ s ∷ []) y u) i.1
                (subst (λ j. IsStateOf d order j m nodes (states ++ s ∷ []) y s) (sym i.0)
                (subst (λ u. IsStateOf d order (length states) m nodes (states ++ s ∷ []) u s) (same_Some x y (sym there ∙ ap (slice_get nodes) (sym i.0) ∙ e)) is))
          ];
          rest = subst (λ k. ArePaired k (drop k nodes)) (sym long) (rest-plain (length states) x there free apart h.rest);
          left = less ∙ ap (λ k. length (stores_after d k)) (sym long);
          few = λ k y z e f. elim (get-one states s z k f) [
            | inl i ↦ h.few k y z e i
            | inr i ↦ subst (λ (u : StateData). length u.cells.cells ≤ node_count d order nodes y) i.1
                (subst (λ v. length s.cells.cells ≤ node_count d order nodes v) (same_Some x y (sym there ∙ ap (slice_get nodes) (sym i.0) ∙ e)) few)
          ];
          narrow = λ k z f. elim (get-one states s z k f) [ inl i ↦ h.narrow k z i | inr i ↦ subst (IsNarrow d) i.1 narrow ];
        }

    -- the state of a segment that comes to a call, and that of the call
    pub two-more : (g : Segment) (k : ℕ) (s u : StateData) (left : ℕ) → slice_get nodes (length states) ≡ Some (Run g (Go k)) → (c : Comes (length states) k) → slots_in s.cells ≤ m → slots_in u.cells ≤ m → length s.cells.cells ≤ node_count d order nodes (Run g (Go k)) → IsNarrow d s →
        left ≡ length (stores_after d (length states + 2)) → Calls d order (length states) g k c.task c.to s u → AreFirst d order nodes ((states ++ s ∷ []) ++ u ∷ []) m left
    two-more g k s u left there c fits fits2 few narrow less calls =
        let long = length-append states (s ∷ []) in
        let long2 = length-append (states ++ s ∷ []) (u ∷ []) in
        let lt = slice_get_within nodes (length states + 1) (Trap c.task c.to) c.node in
        let all = (states ++ s ∷ []) ++ u ∷ [] in
        let seam : slice_get all (length (states ++ s ∷ [])) ≡ Some u = get-seam (states ++ s ∷ []) [] u in
        let first : IsStateOf d order (length states) m nodes all (Run g (Go k)) s = (
          calls.does,
          record {
            task = c.task;
            to = c.to;
            trap = calls.trap;
            node = subst (λ j. slice_get nodes j ≡ Some (Trap c.task c.to)) (sym c.is) c.node;
            there = record { state = u; there = subst (λ j. slice_get all j ≡ Some u) (long ∙ sym c.is) seam; trap = calls.is };
            asks = calls.asks;
          },
        ) in
        let second : (number : ℕ) → IsStateOf d order number m nodes all (Trap c.task c.to) u = λ number. record { no_cells = calls.no_cells; no_writes = calls.no_writes; trap = calls.trap; is = calls.is; next = calls.next; call = calls.call m fits } in
        let both : length states + 1 + 1 ≡ length states + 2 = omega arith in
        let two : length states + 2 ≡ length all = sym both ∙ ap (λ q. q + 1) (sym long) ∙ sym long2 in
        record {
          many = omega (arith, long, long2, lt);
          fits = λ j z e. elim (get-one (states ++ s ∷ []) u z j e) [
            | inl i ↦ elim (get-one states s z j i) [ inl a ↦ (let f = h.fits j z a in omega (arith, f, le)) | inr a ↦ subst (λ (v : StateData). slots_in v.cells ≤ m) a.1 fits ]
            | inr i ↦ subst (λ (v : StateData). slots_in v.cells ≤ m) i.1 fits2
          ];
          each = λ j y z e f. elim (get-one (states ++ s ∷ []) u z j f) [
            | inl i ↦ elim (get-one states s z j i) [
              | inl a ↦ subst (λ ss. IsStateOf d order j m nodes ss y z) (append-two states s u) (state-stays j n m states (s ∷ u ∷ []) y z le (h.each j y z e a))
              | inr a ↦ subst (λ (v : StateData). IsStateOf d order j m nodes all y v) a.1
                  (subst (λ q. IsStateOf d order q m nodes all y s) (sym a.0)
                  (subst (λ v. IsStateOf d order (length states) m nodes all v s) (same_Some (Run g (Go k)) y (sym there ∙ ap (slice_get nodes) (sym a.0) ∙ e)) first))
            ]
            | inr i ↦ subst (λ (v : StateData). IsStateOf d order j m nodes all y v) i.1
                (subst (λ v. IsStateOf d order j m nodes all v u) (same_Some (Trap c.task c.to) y (sym c.node ∙ ap (slice_get nodes) (sym long ∙ sym i.0) ∙ e)) (second j))
          ];
          rest = subst (λ q. ArePaired q (drop q nodes)) two c.rest;
          left = less ∙ ap (λ q. length (stores_after d q)) two;
          few = λ j y z e f. elim (get-one (states ++ s ∷ []) u z j f) [
            | inl i ↦ elim (get-one states s z j i) [
              | inl a ↦ h.few j y z e a
              | inr a ↦ subst (λ (v : StateData). length v.cells.cells ≤ node_count d order nodes y) a.1
                  (subst (λ v. length s.cells.cells ≤ node_count d order nodes v) (same_Some (Run g (Go k)) y (sym there ∙ ap (slice_get nodes) (sym a.0) ∙ e)) few)
            ]
            | inr i ↦ subst (λ (v : StateData). length v.cells.cells ≤ node_count d order nodes y) i.1
                (let none = ap (λ (cs : List CellData). length cs) calls.no_cells in omega (arith, none))
          ];
          narrow = λ j z f. elim (get-one (states ++ s ∷ []) u z j f) [
            | inl i ↦ elim (get-one states s z j i) [ inl a ↦ h.narrow j z a | inr a ↦ subst (IsNarrow d) a.1 narrow ]
            | inr i ↦ subst (IsNarrow d) i.1 (subst (AllByRecursion (IsWithin (register_width d) u.cells)) (sym calls.no_writes) tt)
          ];
        }

-- all of them
pub all-made : (d : Flat) (order : List ℕ) (nodes : List Node) (states : List StateData) (n stores : ℕ) → AreFirst d order nodes states n stores → length nodes ≤ length states → AreStates d order n nodes states
all-made d order nodes states n stores h le = record { many = (let m = h.many in omega (arith, m, le)); fits = h.fits; each = h.each }
