-- Free orders and the replies to them (own).
use Rattle.std.specs.Prelude.{ℕ, ◌&&◌, ◌==◌, if◌then◌else◌, List, [], ◌∷◌, length, filter, codes, slice_get, option_map, unwrap_or, Option, Some, None}
use Rattle.std.specs.List.{flat_map}
use Rattle.host_text.specs.declared.script.Free.{Free}
use Rattle.host_text.specs.declared.script.Free.TheVariants as free
use Rattle.host_text.specs.declared.script.Script.{Script}
use Rattle.host_text.specs.declared.block.Reply.{Reply}
use Rattle.host_text.specs.declared.block.Reply.TheVariants as reply_is
use Rattle.host_text.specs.declared.block.FreeLine.{FreeLine}
use Rattle.host_text.specs.vl_design.specs.Alone.{FreeSave}

-- a free order and the reply to it
pub record Answered : Type 0 where
  pub order : Free
  pub reply : Reply

-- ---- the line of an order

abbrev pub fabric_name : Script → ℕ → List ℕ
fabric_name s g = unwrap_or (option_map (λ f. f.name) (slice_get s.fabrics g)) []

abbrev pub tenant_name : Script → ℕ → List ℕ
tenant_name s n = unwrap_or (option_map (λ t. t.name) (slice_get s.tenants n)) []

-- the words of an order, as the script has them
abbrev pub order_words : Script → Free → List (List ℕ)
order_words s (free.Move n g) = codes "move" ∷ tenant_name s n ∷ fabric_name s g ∷ []
order_words s (free.Stop n) = codes "stop" ∷ tenant_name s n ∷ []
order_words s (free.Save n name) = codes "save" ∷ tenant_name s n ∷ name ∷ []
order_words s (free.Watch n) = codes "watch" ∷ tenant_name s n ∷ []

abbrev pub free_line : Script → Answered → FreeLine
free_line s a = record { words = order_words s a.order; reply = a.reply }

-- ---- what orders did

-- the number of the tenant of an order
abbrev pub tenant_of : Free → ℕ
tenant_of (free.Move n g) = n
tenant_of (free.Stop n) = n
tenant_of (free.Save n name) = n
tenant_of (free.Watch n) = n

-- the tick at which an order was done, or a tenant was seen
abbrev pub tick_in : Reply → List ℕ
tick_in (reply_is.At tick) = tick ∷ []
tick_in reply = []

-- the ticks of all such replies to orders of a tenant
abbrev pub ticks_of : ℕ → List Answered → List ℕ
ticks_of n answers = flat_map (λ a. if tenant_of a.order == n then tick_in a.reply else []) answers

abbrev pub stop_in : ℕ → Free → Reply → Option ℕ
stop_in n (free.Stop t) (reply_is.At tick) = if t == n then Some tick else None
stop_in n order reply = None

abbrev pub or_else : Option ℕ → Option ℕ → Option ℕ
or_else (Some tick) later = Some tick
or_else None later = later

-- the tick at which a free order stopped a tenant
abbrev pub stop_of : ℕ → List Answered → Option ℕ
stop_of n [] = None
stop_of n (a ∷ answers) = or_else (stop_in n a.order a.reply) (stop_of n answers)

abbrev pub saves_in : ℕ → Free → Reply → List FreeSave
saves_in n (free.Save t name) (reply_is.At tick) = if t == n then record { name = name; tick = tick } ∷ [] else []
saves_in n order reply = []

-- the snapshots that free orders made of a tenant, in their order
abbrev pub saves_of : ℕ → List Answered → List FreeSave
saves_of n answers = flat_map (λ a. saves_in n a.order a.reply) answers

-- a fabric, by its number, and the tick at which a tenant is put in line there
pub record Put : Type 0 where
  pub fabric : ℕ
  pub tick : ℕ

abbrev pub moves_in : ℕ → Free → Reply → List Put
moves_in n (free.Move t g) (reply_is.At tick) = if t == n then record { fabric = g; tick = tick } ∷ [] else []
moves_in n order reply = []

-- where free orders moved a tenant
abbrev pub moves_of : ℕ → List Answered → List Put
moves_of n answers = flat_map (λ a. moves_in n a.order a.reply) answers

-- how many are on this fabric at this tick
abbrev pub puts_at : ℕ → ℕ → List Put → ℕ
puts_at g tick puts = length (filter (λ p. (p.fabric == g) && (p.tick == tick)) puts)
