-- The grammar: the words, and two tables that say what may follow what and which field of the record it gives. Assumes nothing.
-- A line is a path from place 0 to a place at which it may end. Both the reader and the writer go by it.
use Rattle.std.specs.Prelude.{Option, Some, None, ℕ, ◌+◌, ◌/◌, ◌%◌, Bool, ◌&&◌, ◌||◌, cond, List, [], ◌∷◌, eqb, get_or, set}
use Rattle.rules.specs.Loops.{first_up_to}
use Rattle.words.specs.Types.{Said, Edge, Slot}

-- ---- the words, each as a number: its letters from a = 1 to z = 26, in base 32

abbrev pub tick_word : ℕ
tick_word = 664683

abbrev pub begin_word : ℕ
begin_word = 2268462

abbrev pub invoke_word : ℕ
invoke_word = 317406565

abbrev pub refresh_word : ℕ
refresh_word = 19502012008

abbrev pub terminate_word : ℕ
terminate_word = 22181804705413

abbrev pub prepare_word : ℕ
prepare_word = 17789617733

abbrev pub ask_word : ℕ
ask_word = 1643

abbrev pub close_word : ℕ
close_word = 3554917

abbrev pub tell_word : ℕ
tell_word = 660876

abbrev pub abort_word : ℕ
abort_word = 1130068

abbrev pub deliver_word : ℕ
deliver_word = 4475639986

abbrev pub drop_word : ℕ
drop_word = 150000

abbrev pub sweep_word : ℕ
sweep_word = 20681904

abbrev pub crash_word : ℕ
crash_word = 3737192

abbrev pub recover_word : ℕ
recover_word = 19498784946

abbrev pub retire_word : ℕ
retire_word = 609887813

abbrev pub raw_word : ℕ
raw_word = 18487

abbrev pub by_word : ℕ
by_word = 89

abbrev pub home_word : ℕ
home_word = 277925

abbrev pub slot_word : ℕ
slot_word = 635380

abbrev pub quiesce_word : ℕ
quiesce_word = 18967874661

abbrev pub release_word : ℕ
release_word = 19507873381

abbrev pub at_word : ℕ
at_word = 52

abbrev pub read_word : ℕ
read_word = 594980

abbrev pub write_word : ℕ
write_word = 24716933

abbrev pub operation_word : ℕ
operation_word = 17048404633070

abbrev pub object_word : ℕ
object_word = 505746548

abbrev pub value_word : ℕ
value_word = 23114405

-- ---- words: at place `from` the word leads to place `to`, and puts `value` into byte `field` of the record

abbrev pub edge : ℕ → ℕ → ℕ → ℕ → ℕ → Edge
edge from word to field value =
    record { from = from; word = word; to = to; says = Some record { field = field; value = value } }

-- a word that says nothing of the record
abbrev pub passes : ℕ → ℕ → ℕ → Edge
passes from word to =
    record { from = from; word = word; to = to; says = None }

abbrev pub edges : List Edge
edges =
    -- the sixteen steps, by their codes
    edge 0 tick_word 5 0 1 ∷ edge 0 begin_word 8 0 2 ∷ edge 0 invoke_word 19 0 3 ∷ edge 0 refresh_word 16 0 4
    ∷ edge 0 terminate_word 4 0 5
    ∷ edge 0 prepare_word 4 0 6
    ∷ edge 0 ask_word 17 0 7
    ∷ edge 0 close_word 4 0 8
    ∷ edge 0 tell_word 17 0 9
    ∷ edge 0 abort_word 4 0 10
    ∷ edge 0 deliver_word 3 0 11
    ∷ edge 0 drop_word 3 0 12
    ∷ edge 0 sweep_word 2 0 13
    ∷ edge 0 crash_word 2 0 14
    ∷ edge 0 recover_word 2 0 15
    ∷ edge 0 retire_word 4 0 16
    -- any record
    ∷ passes 0 raw_word 30
    -- the names of fields
    ∷ passes 6 by_word 7
    ∷ passes 8 home_word 9
    ∷ passes 10 slot_word 11
    ∷ passes 12 quiesce_word 13
    ∷ passes 14 release_word 15
    ∷ passes 18 at_word 2
    ∷ passes 20 at_word 21
    -- "b=0 read or 1 write", or any other number
    ∷ edge 22 read_word 23 2 0
    ∷ edge 22 write_word 27 2 1
    ∷ passes 22 operation_word 26
    ∷ passes 23 object_word 24
    ∷ passes 25 value_word 7
    ∷ passes 27 object_word 28
    ∷ passes 29 value_word 7
    ∷ []

abbrev pub edge_count : ℕ
edge_count = 31

abbrev pub edge_of : ℕ → Edge
edge_of k = get_or edges k (edge 0 0 0 0 0)

abbrev pub leads_from : ℕ → ℕ → ℕ → Bool
leads_from node word k = eqb (edge_of k).from node && eqb (edge_of k).word word

-- the row of this word at this place; 31 if there is none
unfoldable pub edge_at : ℕ → ℕ → ℕ
edge_at node word = first_up_to (leads_from node word) edge_count

-- ---- numbers: at this place a number goes into `width` bytes of the record from byte `field` on, and leads to place `to`
-- a width of 0 is none: no number stands here

abbrev pub takes : ℕ → ℕ → ℕ → Slot
takes field width to = record { field = field; width = width; to = to }

abbrev pub none : Slot
none = takes 0 0 0

-- "bytes code, a, b, c; handle h in two bytes; two zero bytes; u and v in four bytes each"
abbrev pub slots : List Slot
slots =
    none ∷ none
    -- 2 a, 3 c, 4 h, and the line may end
    ∷ takes 1 1 1
    ∷ takes 3 1 1
    ∷ takes 4 2 1
    -- 5 tick: a, by, u
    ∷ takes 1 1 6
    ∷ none
    ∷ takes 8 4 1
    -- 8 begin: home, a, slot, b, quiesce, u, release, v
    ∷ none
    ∷ takes 1 1 10
    ∷ none
    ∷ takes 2 1 12
    ∷ none
    ∷ takes 8 4 14
    ∷ none
    ∷ takes 12 4 1
    -- 16 refresh: h, and on as begin does
    ∷ takes 4 2 12
    -- 17 ask, tell: h, at, a
    ∷ takes 4 2 18
    ∷ none
    -- 19 invoke: h, at, a, and then read, write or operation
    ∷ takes 4 2 20
    ∷ none
    ∷ takes 1 1 22
    ∷ none
    -- 23 read: object, c, and the line may end, or value, u
    ∷ none
    ∷ takes 3 1 25
    ∷ none
    -- 26 operation: b; 27 write: object, c, value, u
    ∷ takes 2 1 27
    ∷ none
    ∷ takes 3 1 29
    ∷ none
    -- 30 raw
    ∷ none
    ∷ []

abbrev pub slot_at : ℕ → Slot
slot_at node = get_or slots node none

-- the largest number that so many bytes hold
abbrev pub most_in : ℕ → ℕ
most_in width = cond (eqb width 1) 255 (cond (eqb width 2) 65535 4294967295)

abbrev pub raw_node : ℕ
raw_node = 30

-- a line may end before its first word, after its last field, and after a read's object
abbrev pub may_end : ℕ → Bool
may_end node = eqb node 0 || eqb node 1 || eqb node 25

-- ---- into the record

-- a word's own byte
abbrev pub said : Option Said → List ℕ → List ℕ
said None bytes = bytes
said (Some s) bytes = set bytes s.field s.value

-- a number, lowest byte first; a single byte holds it as it is
abbrev pub put_one : ℕ → ℕ → List ℕ → List ℕ
put_one field n bytes = set bytes field n

abbrev pub put_two : ℕ → ℕ → List ℕ → List ℕ
put_two field n bytes = set (set bytes field (n % 256)) (field + 1) (n / 256 % 256)

abbrev pub put_four : ℕ → ℕ → List ℕ → List ℕ
put_four field n bytes =
    set (set (put_two field n bytes) (field + 2) (n / 65536 % 256)) (field + 3) (n / 16777216 % 256)

abbrev pub slot_stored : Slot → ℕ → List ℕ → List ℕ
slot_stored s n bytes =
    cond
    (eqb s.width 1)
    (put_one s.field n bytes)
    (cond (eqb s.width 2) (put_two s.field n bytes) (put_four s.field n bytes))
