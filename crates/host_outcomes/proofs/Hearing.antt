-- The ticks that earlier lines tell of a tenant.
use Rattle.std.proofs.Common.{◌≡◌, ℕ, Bool, true, false, ◌==◌, if◌then◌else◌, List, [], ◌∷◌, ◌++◌, get_or, refl, sym, ap, ◌∙◌}
use Rattle.std.proofs.lemmas.List.{append-nil, append_assoc}
use Rattle.std.proofs.lemmas.List.Concat.{flat_map-append}
use Rattle.host_judge.specs.host_text.specs.declared.script.Free.{Free}
use Rattle.host_judge.specs.host_text.specs.declared.block.Reply.TheVariants as reply_is
use Rattle.fab_orders.specs.declared.outcomes.Answer.{Answer}
use Rattle.fab_orders.specs.declared.outcomes.Order.{Order}
use Rattle.fab_orders.specs.declared.outcomes.Reached.{Reached}
use Rattle.fab_orders.specs.declared.outcomes.Reached.TheVariants as reached
use Rattle.fab_orders.specs.Orders.{ticks_in, ticks_told}
use Rattle.host_judge.specs.host_form.specs.Orders.{tenant_of, tick_in, ticks_of, Answered}
use Rattle.host_outcomes.specs.Given.{is_gone, order_for, rank, reply_for, with_reply}
use Rattle.host_outcomes.proofs.Ranks.{same-number}

abbrev in_line : ℕ → Answered → List ℕ
in_line n a = if tenant_of a.order == n then tick_in a.reply else []

ticks-more : (n : ℕ) (earlier : List Answered) (a : Answered) → ticks_of n (earlier ++ a ∷ []) ≡ ticks_of n earlier ++ in_line n a
ticks-more n earlier a = flat_map-append (in_line n) earlier (a ∷ []) ∙ ap (λ (xs : List ℕ). ticks_of n earlier ++ xs) (append-nil (in_line n a))

told-more : (t : ℕ) (done : List Answer) (a : Answer) → ticks_told t (done ++ a ∷ []) ≡ ticks_told t done ++ ticks_in t a.order.value.tenant a.reached
told-more t [] a = append-nil (ticks_in t a.order.value.tenant a.reached)
told-more t (x ∷ done) a =
    ap (λ (xs : List ℕ). ticks_in t x.order.value.tenant x.reached ++ xs) (told-more t done a)
    ∙ sym (append_assoc (ticks_in t x.order.value.tenant x.reached) (ticks_told t done) (ticks_in t a.order.value.tenant a.reached))

nothing : (b : Bool) → ◌≡◌ {A = List ℕ} (if b then [] else []) []
nothing true = refl
nothing false = refl

module _ (refused : List Bool) where
  -- earlier lines tell of each tenant that runs what earlier answers do
  abbrev pub IsHeard : List Answered → List Answer → Type 0
  IsHeard earlier done = (n : ℕ) → get_or refused n true ≡ false → ticks_of n earlier ≡ ticks_told (rank refused n) done

  same-ticks : (n : ℕ) → get_or refused n true ≡ false → (o : Free) (x : Reached) → is_gone refused o ≡ false
      → in_line n (with_reply o (reply_for x)) ≡ ticks_in (rank refused n) (rank refused (tenant_of o)) x
  same-ticks n runs o (reached.At j) e = ap (λ b. if b then j ∷ [] else []) (same-number refused (tenant_of o) n e runs)
  same-ticks n runs o (reached.Ended j) e = nothing (tenant_of o == n)

  -- a line that was said at once tells of no tick
  pub heard-refused : (earlier : List Answered) (done : List Answer) (o : Free) → IsHeard earlier done → IsHeard (earlier ++ with_reply o reply_is.Refused ∷ []) done
  heard-refused earlier done o h = λ n e.
      ticks-more n earlier (with_reply o reply_is.Refused)
      ∙ ap (λ (xs : List ℕ). ticks_of n earlier ++ xs) (nothing (tenant_of o == n))
      ∙ append-nil (ticks_of n earlier)
      ∙ h n e

  pub heard-small : (earlier : List Answered) (done : List Answer) (o : Free) → IsHeard earlier done → IsHeard (earlier ++ with_reply o reply_is.Small ∷ []) done
  heard-small earlier done o h = λ n e.
      ticks-more n earlier (with_reply o reply_is.Small)
      ∙ ap (λ (xs : List ℕ). ticks_of n earlier ++ xs) (nothing (tenant_of o == n))
      ∙ append-nil (ticks_of n earlier)
      ∙ h n e

  pub heard-given : (earlier : List Answered) (done : List Answer) (o : Free) (a : Answer) → order_for refused o ≡ a.order.value → is_gone refused o ≡ false → IsHeard earlier done
      → IsHeard (earlier ++ with_reply o (reply_for a.reached) ∷ []) (done ++ a ∷ [])
  heard-given earlier done o a same runs h = λ n e.
      ticks-more n earlier (with_reply o (reply_for a.reached))
      ∙ ap (λ (xs : List ℕ). xs ++ in_line n (with_reply o (reply_for a.reached))) (h n e)
      ∙ ap (λ (xs : List ℕ). ticks_told (rank refused n) done ++ xs) (same-ticks n e o a.reached runs)
      ∙ ap (λ (q : Order). ticks_told (rank refused n) done ++ ticks_in (rank refused n) q.tenant a.reached) same
      ∙ sym (told-more (rank refused n) done a)
