-- What a clearance check is asked, and what it refuses by itself, before any step. Assumes nothing.
-- "for a beam of 0 or over 1,000,000, a margin over 5,000, a list that is empty or longer than eight, an object number over 31,
-- or an object named twice, tried in that order"
use Rattle.std.specs.Prelude.{ℕ, ◌+◌, Bool, cond, not, ◌&&◌, ◌||◌, List, ltb, eqb, leb, length, get_or, Result, Ok, Err}
use Rattle.rules.specs.Limits.{object_most}
use Rattle.rules.specs.Loops.{some_up_to, every_up_to}
use Rattle.rules.specs.Tables.{object_site}
use Rattle.clearing.specs.declared.OwnRefusal.{OwnRefusal}

-- the object at a place of the list
abbrev pub listed : List ℕ → ℕ → ℕ
listed objects i = get_or objects i 0

-- 1: "a beam of 0 or over 1,000,000"
abbrev pub bad_beam : ℕ → Bool
bad_beam beam = eqb beam 0 || ltb 1000000 beam

-- 2: "a margin over 5,000"
abbrev pub bad_margin : ℕ → Bool
bad_margin margin = ltb 5000 margin

-- 3: "a list that is empty or longer than eight"
abbrev pub bad_list : List ℕ → Bool
bad_list objects = eqb (length objects) 0 || ltb 8 (length objects)

-- 4: "an object number over 31"
abbrev pub bad_object : List ℕ → Bool
bad_object objects = some_up_to (λ i. ltb object_most (listed objects i)) (length objects)

-- does it stand at an earlier place too?
abbrev pub is_named_before : List ℕ → ℕ → Bool
is_named_before objects i = some_up_to (λ j. eqb (listed objects j) (listed objects i)) i

-- 5: "an object named twice"
abbrev pub names_twice : List ℕ → Bool
names_twice objects = some_up_to (is_named_before objects) (length objects)

-- the first of these refusals that applies
abbrev pub own_refusal_of : ℕ → ℕ → List ℕ → Result (Unit {0}) OwnRefusal
own_refusal_of beam margin objects =
    cond (bad_beam beam) (Err OwnRefusal.Beam)
    (cond (bad_margin margin) (Err OwnRefusal.Margin)
    (cond (bad_list objects) (Err OwnRefusal.List)
    (cond (bad_object objects) (Err OwnRefusal.Object)
    (cond (names_twice objects) (Err OwnRefusal.Twice) (Ok tt)))))

-- does an object of the list stand at this station?
abbrev pub has_object_at : List ℕ → ℕ → Bool
has_object_at objects site = some_up_to (λ i. eqb (object_site (listed objects i)) site) (length objects)

-- is the station asked? "not home, with an object of the list"
abbrev pub is_to_ask : ℕ → List ℕ → ℕ → Bool
is_to_ask home objects site = not (eqb site home) && has_object_at objects site

-- "beam plus margin is at most every width that it read"
abbrev pub is_fitting : ℕ → ℕ → List ℕ → ℕ → Bool
is_fitting beam margin widths count = every_up_to (λ i. leb (beam + margin) (get_or widths i 0)) count
