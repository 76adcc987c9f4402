-- Nine objects at most, of any text. Assumes nothing.
use Rattle.std.proofs.Common.{ℕ, ◌≤◌, ◌≡◌, refl, Bool, true, false, cond, List, [], ◌∷◌, arith, Some, None}
use Rattle.requests.specs.Requests.{words_of, text_bytes, same, all_digits, number_on, is_number, all_numbers, asks, in_order, is_request, asked, request_of}
use Rattle.std.specs.Option.{IfSome}
use Rattle.requests.specs.declared.Request.{Request}

few_by : (is : Bool) (words : List (List ℕ)) → IfSome (cond is (Some (asked words)) None) (λ (r : Request). r.count ≤ 9)
unfolding asked
few_by true words = omega arith
few_by false words = tt

pub few_objects : (text : List ℕ) → IfSome (request_of text) (λ (r : Request). r.count ≤ 9)
unfolding request_of
few_objects text = few_by (is_request text) (words_of text)

-- the largest numbers, numbers that count as 255, leading zeros, and of ten objects the first nine
pub most_read :
    request_of (text_bytes "beam 4294967295 margin 0000000000007 home 256 slot 4294967295 quiesce 0 release 0 objects 1 2 3 4 5 6 7 300 9 10")
    ≡ Some (record {
      beam = 4294967295;
      margin = 7;
      home = 255;
      slot = 255;
      quiesce = 0;
      release = 0;
      objects = 1 ∷ 2 ∷ 3 ∷ 4 ∷ 5 ∷ 6 ∷ 7 ∷ 255 ∷ 9 ∷ [];
      count = 9;
    })
unfolding request_of asked in_order asks same is_number all_numbers all_digits number_on words_of
most_read = refl
