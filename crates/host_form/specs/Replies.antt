-- What the reply to a free order may be (own).
use Rattle.std.specs.Prelude.{◌≡◌, ℕ, ◌<◌, ◌≤◌, true, false, List, [], ◌∷◌, ◌++◌, slice_get, Option, Some, None, ⊤}
use Rattle.std.specs.List.{AllByRecursion}
use Rattle.host_text.specs.vl_design.specs.declared.design.End.TheVariants.{Stopped}
use Rattle.host_text.specs.vl_design.specs.Cost.{cost}
use Rattle.host_text.specs.vl_design.specs.Alone.{first_tick}
use Rattle.host_text.specs.declared.script.FabricLine.{FabricLine}
use Rattle.host_text.specs.declared.script.Free.{Free}
use Rattle.host_text.specs.declared.script.Free.TheVariants as free
use Rattle.host_text.specs.declared.block.Reply.{Reply}
use Rattle.host_text.specs.declared.block.Reply.TheVariants as reply_is
use Rattle.host_form.specs.Origins.{has_room}
use Rattle.host_form.specs.Histories.{Histories, history_of, lines_at, Leaves, IsPlaced, reached}
use Rattle.host_form.specs.Orders.{Answered, tenant_of, ticks_of}
use Rattle.host_form.specs.Runs.{Run, Outcome, Refused, Ran}

-- ---- of a tenant that runs

-- a move to the fabric g. `small`: the fabric is too small; else K: the tenant is put in line there at K; or `ended K`: its run
-- ends at K
abbrev pub MayMove : List FabricLine → Histories → ℕ → ℕ → Run → Reply → Type 0
MayMove fabrics histories n g r (reply_is.At k) = (has_room fabrics (cost r.origin.flat) g ≡ true) × (0 < lines_at n k (history_of histories g))
MayMove fabrics histories n g r (reply_is.Ended k) = (has_room fabrics (cost r.origin.flat) g ≡ true) × (k ≡ r.tick)
MayMove fabrics histories n g r reply_is.Small = has_room fabrics (cost r.origin.flat) g ≡ false
MayMove fabrics histories n g r reply_is.Refused = ⊥

-- a stop. K: the run ends at K by a stop, and the tenant leaves a fabric at K; `ended K`: the run ends at K
abbrev pub MayStop : Histories → ℕ → Run → Reply → Type 0
MayStop histories n r (reply_is.At k) = (k ≡ r.tick) × (r.reason ≡ Stopped) × Leaves histories n k
MayStop histories n r (reply_is.Ended k) = k ≡ r.tick
MayStop histories n r reply_is.Small = ⊥
MayStop histories n r reply_is.Refused = ⊥

-- a save. K: a tick of the run, at which the tenant leaves a fabric; `ended K`: the run ends at K
abbrev pub MaySave : Histories → ℕ → Run → Reply → Type 0
MaySave histories n r (reply_is.At k) = (first_tick r.origin.resume ≤ k) × (k ≤ r.tick) × Leaves histories n k
MaySave histories n r (reply_is.Ended k) = k ≡ r.tick
MaySave histories n r reply_is.Small = ⊥
MaySave histories n r reply_is.Refused = ⊥

-- a watch. K: a tick that the tenant's notes reach; not below its first, if it is put in line; and not below one that an earlier
-- line says of it
abbrev pub MayWatch : Histories → List Answered → ℕ → Run → Reply → Type 0
MayWatch histories earlier n r (reply_is.At k) =
    (k ≤ reached histories n) × (IsPlaced histories n → first_tick r.origin.resume ≤ k) × AllByRecursion (λ j. j ≤ k) (ticks_of n earlier)
MayWatch histories earlier n r (reply_is.Ended k) = ⊥
MayWatch histories earlier n r reply_is.Small = ⊥
MayWatch histories earlier n r reply_is.Refused = ⊥

abbrev pub MayReply : List FabricLine → Histories → List Answered → Run → Free → Reply → Type 0
MayReply fabrics histories earlier r (free.Move n g) reply = MayMove fabrics histories n g r reply
MayReply fabrics histories earlier r (free.Stop n) reply = MayStop histories n r reply
MayReply fabrics histories earlier r (free.Save n name) reply = MaySave histories n r reply
MayReply fabrics histories earlier r (free.Watch n) reply = MayWatch histories earlier n r reply

-- ---- of any tenant

-- the reply to an order, by what comes of its tenant: `refused` to each order of a refused one, and to no other
abbrev pub MayAnswer : List FabricLine → Histories → List Answered → Option Outcome → Answered → Type 0
MayAnswer fabrics histories earlier None a = ⊥
MayAnswer fabrics histories earlier (Some (Refused place kind)) a = a.reply ≡ reply_is.Refused
MayAnswer fabrics histories earlier (Some (Ran r)) a = MayReply fabrics histories earlier r a.order a.reply

-- orders with replies that they may have, behind earlier ones
abbrev pub AreAnswered : List FabricLine → Histories → List Outcome → List Answered → List Answered → Type 0
AreAnswered fabrics histories outcomes earlier [] = ⊤
AreAnswered fabrics histories outcomes earlier (a ∷ answers) =
    MayAnswer fabrics histories earlier (slice_get outcomes (tenant_of a.order)) a × AreAnswered fabrics histories outcomes (earlier ++ a ∷ []) answers
