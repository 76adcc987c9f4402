-- The ranges of document 01, "Tables and numbers". Assumes nothing.
use Rattle.std.specs.Prelude.{ℕ}

-- "clock 0..2,000,000,000"
abbrev pub clock_most : ℕ
clock_most = 2000000000

-- "Q and R are 0..1,000,000,000"
abbrev pub time_most : ℕ
time_most = 1000000000

-- "Value 0..1,000,000 (mm)"
abbrev pub width_most : ℕ
width_most = 1000000

-- "number 0..1,000", "calls sent .. (0..1,000 each), calls received (0..1,000)"
abbrev pub count_most : ℕ
count_most = 1000

-- "a field or handle (0..4,095)"
abbrev pub handle_most : ℕ
handle_most = 4095

-- "8 sites, 0..7"
abbrev pub site_most : ℕ
site_most = 7

-- "16 passage slots"
abbrev pub slot_most : ℕ
slot_most = 15

-- "32 objects"
abbrev pub object_most : ℕ
object_most = 31

-- "32 message slots"
abbrev pub message_most : ℕ
message_most = 31

-- "n, 1..1,000,000"
abbrev pub tick_most : ℕ
tick_most = 1000000
