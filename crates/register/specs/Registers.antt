-- Registers of records that have an order, over slots that are lent. A register is always in order and without repeats: its type says so.
--   held a           the records that the register a holds
--   room a           how many it can hold
--   SameSlots a b    the registers a and b lie over the same slots
--   Placed a b x     the register b holds what a holds, and x besides
--   Put a b x r      what inserting x into the register a answers, r, and leaves, b
--   Grew P a b       b holds what a holds and all records with the property P, and nothing else
--   Lacks P a b      the slots are too few for what a holds and all records with the property P
--   Filled P a b r   what adding all records with the property P to the register a answers, r, and leaves, b
use Rattle.std.specs.Prelude.{◌≡◌, ℕ, ◌<◌, ◌≤◌, Bool, true, false, ◌⊎◌, List, length, take, Ok, Err, Result, ◌≢◌, slice_index_or}
use Rattle.std.specs.declared.cmp.Ord
use Rattle.std.specs.declared.cmp.PartialEq
use Rattle.std.specs.declared.cmp.PartialOrd
use Rattle.std.specs.declared.cmp.Ordering.TheVariants.{Equal}
use Rattle.std.specs.List.{insert}
use Rattle.register.specs.declared.register.Full.{Full}
use Rattle.register.specs.declared.register.Register.{Register}
use Rattle.register.specs.Lists.{Has, More}

module _ {X : Type 0} {O : Ord.Ghosts X} {E : PartialEq.Ghosts X} {L : PartialOrd.Ghosts X} where
  abbrev pub held : Register X O E L → List X
  held a = take a.count a.slots.now

  abbrev pub room : Register X O E L → ℕ
  room a = length a.slots.now

  pub record SameSlots (a b : Register X O E L) : Type 0 where
    pub size : room b ≡ room a
    pub lent : b.slots.ghost_name ≡ a.slots.ghost_name

  pub record Placed (a b : Register X O E L) (x : X) : Type 0 where
    pub same : SameSlots a b
    pub had_room : length (held a) < room a
    pub place : ℕ
    pub place_in : place ≤ length (held a)
    pub put : held b ≡ insert (held a) place x

  -- A record that is new is placed. One that is there, or that is new and finds no slot, changes nothing.
  abbrev pub Put : Register X O E L → Register X O E L → X → Result Bool Full → Type 0
  Put a b x (Ok true) = Placed a b x
  Put a b x (Ok false) = (b ≡ a) × ((k : ℕ) × (k < length (held a)) × ((d : X) → O.cmp (slice_index_or (held a) k d) x ≡ Equal))
  Put a b x (Err e) =
      (b ≡ a) × (length (held a) ≡ room a) × ((k : ℕ) (d : X) → k < length (held a) → O.cmp (slice_index_or (held a) k d) x ≢ Equal)

  pub record Grew (P : X → Type 0) (a b : Register X O E L) : Type 0 where
    pub same : SameSlots a b
    pub old : (z : X) → Has (held a) z → Has (held b) z
    pub new : (z : X) → P z → Has (held b) z
    pub only : (z : X) → Has (held b) z → Has (held a) z ⊎ P z

  pub record Lacks (P : X → Type 0) (a b : Register X O E L) : Type 0 where
    pub same : SameSlots a b
    pub short : More P (held a) (room a)

  abbrev pub Filled : {U : Type 0} → (X → Type 0) → Register X O E L → Register X O E L → Result U Full → Type 0
  Filled P a b (Ok _) = Grew P a b
  Filled P a b (Err _) = Lacks P a b
