-- What is noted of a tenant, and where it is (own).
use Rattle.std.specs.Prelude.{◌≡◌, ℕ, ◌<◌, ◌≤◌, Bool, true, false, List, [], ◌∷◌, ◌++◌, map, None, vec_len, vec_capacity, ⊤}
use Rattle.vl_design.specs.Alone.{first_tick}
use Rattle.fab_core.specs.fab_model.specs.Points.{Point, ended, is_there, run_in, tick_of}
use Rattle.fab_core.specs.fab_model.specs.Deeds.{Deed, deed_of}
use Rattle.fab_core.specs.fab_model.specs.Ends.{EndsNotBefore}
use Rattle.fab_core.specs.fab_model.specs.Histories.{Seat, is_done, HasNoMove}
use Rattle.fab_core.specs.fab_model.specs.Stays.{chains}
use Rattle.fab_bay.specs.declared.berth.Berth.{Berth}

-- what was known of it when it was put in line
abbrev pub deed_at : Berth → Deed
deed_at b = deed_of b.line.value

-- ---- seats

-- its seat by the tick of its last note
abbrev pub seat : (came : Bool) → Berth → Seat
seat came b = record { tenant = b.tenant; since = b.since; now = b.noted; came = came; deed = deed_at b }

abbrev pub seats : (residents line : List Berth) → List Seat
seats rs line = map (seat true) rs ++ map (seat false) line

-- ---- points

-- the ticks that its run has begun
abbrev pub begun : Point → ℕ
begun p = p.stage.state.ticks

-- a tenant at this point, one of so many: since it was put in line its origin and its snapshots are the same, its last note isn't ahead
-- of it, and it has run neither past its end nor, since then, past a move
pub record IsBerth (tenants : ℕ) (b : Berth) (p : Point) : Type 0 where
  pub number : b.tenant ≡ p.number
  pub few : b.tenant < tenants
  pub origin : (deed_at b).origin ≡ p.origin
  pub free : (deed_at b).free ≡ p.free
  pub by_move : b.by_move ≡ (deed_at b).moved
  pub lives : p.stopped ≡ false
  pub order : (b.since ≤ b.noted) × (b.noted ≤ tick_of p)
  pub end : EndsNotBefore (run_in p) (begun p)
  pub moves : HasNoMove (run_in p).plan b.noted (begun p) (is_done b.since b.noted (deed_at b))
  -- a move is done where it stands if it was done when the tenant was put in line there
  pub moved : p.moved ≡ true → (is_there p ≡ true) × (tick_of p ≡ b.since) × ((deed_at b).moved ≡ true)
  pub done : is_there p ≡ true → tick_of p ≡ b.since → (deed_at b).moved ≡ true → p.moved ≡ true
  -- where the move that stands there is done, its run hasn't ended
  pub lively : p.moved ≡ true → ended p ≡ None
  -- elsewhere than at a boundary, a tick has begun since then
  pub later : is_there p ≡ false → b.since < begun p
  -- its stays lead there, and there is room for one more
  pub stays : b.stays.items ≡ (deed_at b).stays
  pub chained : chains (first_tick (run_in p).resume) b.stays.items b.since ≡ true
  pub room : vec_len b.stays < vec_capacity b.stays

abbrev pub AreBerths : ℕ → List Berth → List Point → Type 0
AreBerths n [] [] = ⊤
AreBerths n [] (p ∷ ps) = ⊥
AreBerths n (b ∷ bs) [] = ⊥
AreBerths n (b ∷ bs) (p ∷ ps) = IsBerth n b p × AreBerths n bs ps

-- a tenant in line stands where it was put in line
pub record IsWaiter (tenants : ℕ) (b : Berth) (p : Point) : Type 0 where
  pub berth : IsBerth tenants b p
  pub since : b.since ≡ tick_of p
  pub noted : b.noted ≡ tick_of p

abbrev pub AreWaiters : ℕ → List Berth → List Point → Type 0
AreWaiters n [] [] = ⊤
AreWaiters n [] (p ∷ ps) = ⊥
AreWaiters n (b ∷ bs) [] = ⊥
AreWaiters n (b ∷ bs) (p ∷ ps) = IsWaiter n b p × AreWaiters n bs ps

-- each tick is noted
abbrev pub AreSettled : List Berth → List Point → Type 0
AreSettled [] ps = ⊤
AreSettled (b ∷ bs) [] = ⊥
AreSettled (b ∷ bs) (p ∷ ps) = (b.noted ≡ tick_of p) × AreSettled bs ps
