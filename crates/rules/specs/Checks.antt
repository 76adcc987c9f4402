-- Conditions that several lines of the refusal table share, each read off what the step saw. Assumes nothing.
use Rattle.std.specs.Prelude.{ℕ, Bool, not, ◌||◌, ltb, eqb}
use Rattle.rules.specs.Types.{Refusal, Check, Seen}
use Rattle.rules.specs.Limits.{clock_most, time_most, handle_most, site_most, message_most}
use Rattle.rules.specs.Tables.{generation_of}
use Rattle.rules.specs.Answers.{refuse}
use Rattle.rules.specs.Parts.{is_free, is_empty}

-- 2: "a field .. out of range", the sites being 0..7
abbrev pub bad_site : ℕ → Bool
bad_site s = ltb site_most s

-- 2: "handle (0..4,095) out of range"
abbrev pub bad_handle : ℕ → Bool
bad_handle h = ltb handle_most h

-- 2: a quiesce or release time out of range, or "Q > R"
abbrev pub bad_times : ℕ → ℕ → Bool
bad_times q r = ltb time_most q || ltb time_most r || ltb r q

-- 2: the message slots are 0..31
abbrev pub bad_message : ℕ → Bool
bad_message m = ltb message_most m

-- 3: "h: slot free or other generation"
abbrev pub no_passage : ℕ → Seen → Check
no_passage h seen =
    refuse
    Refusal.NotThere
    (is_free seen.passage.status || not (eqb seen.passage.generation (generation_of h)))

-- 3: "deliver, drop: slot empty"
abbrev pub no_mail : Seen → Check
no_mail seen = refuse Refusal.NotThere (is_empty seen.message.body)

-- 4: "acting site down"
abbrev pub site_down : Seen → Check
site_down seen = refuse Refusal.SiteDown (not seen.site.up)

-- 6: "no visit at the acting site"
abbrev pub visit_missing : Seen → Check
visit_missing seen = refuse Refusal.NoVisit (not seen.visit.there)

-- 7: "the clock would pass 2,000,000,000"
abbrev pub clock_full : ℕ → Check
clock_full clock = refuse Refusal.ClockFull (ltb clock_most clock)

-- 11: "no empty message slot", and since request a nothing else: the slot that was looked at as the lowest empty one is not empty
abbrev pub is_full : Seen → Bool
is_full seen = not (is_empty seen.message.body)
