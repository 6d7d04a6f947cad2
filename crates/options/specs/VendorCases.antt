-- CASES of vendor information (document 02, request 05), computed: one table, and one statement. Assumes nothing.
use Rattle.std.specs.Prelude.{◌≡◌, List, [], ◌∷◌, ◌++◌, ℕ, replicate}
use Rattle.options.specs.Answers.{given, declined, Filled}
use Rattle.options.specs.Vendor.{vendor_records_value, vendor_write_value}

abbrev pub whole : ℕ → List ℕ → Filled
whole n xs = record { answer = given n; buffer = xs }

-- what is asked, each with what is to be given
pub record Case : Type 0 where
  pub asked : Filled
  pub answered : Filled

abbrev pub is : Filled → Filled → Case
is a b = record { asked = a; answered = b }

abbrev pub cases : List Case
cases =
    -- a pad, an item twice, END and what follows it
    is (vendor_records_value (0 ∷ 1 ∷ 1 ∷ 7 ∷ 1 ∷ 0 ∷ 255 ∷ 9 ∷ []) (5 ∷ 5 ∷ 5 ∷ 5 ∷ 5 ∷ 5 ∷ 5 ∷ 5 ∷ [])) (whole 7 (1 ∷ 0 ∷ 1 ∷ 7 ∷ 1 ∷ 0 ∷ 0 ∷ 5 ∷ []))
    -- nothing at all; and the bytes run out between items
    ∷ is (vendor_records_value [] []) (whole 0 [])
    ∷ is (vendor_records_value (1 ∷ 0 ∷ []) (5 ∷ 5 ∷ 5 ∷ [])) (whole 3 (1 ∷ 0 ∷ 0 ∷ []))
    -- 17 before 11
    ∷ is (vendor_records_value (1 ∷ 0 ∷ 0 ∷ 3 ∷ 2 ∷ 9 ∷ []) []) (record { answer = declined 17 3; buffer = [] })
    ∷ is (vendor_records_value (1 ∷ []) []) (record { answer = declined 17 0; buffer = [] })
    -- 255 as data, and 52
    ∷ is (vendor_records_value (52 ∷ 1 ∷ 255 ∷ 52 ∷ 0 ∷ []) (5 ∷ 5 ∷ 5 ∷ 5 ∷ 5 ∷ 5 ∷ 5 ∷ [])) (whole 7 (52 ∷ 0 ∷ 1 ∷ 255 ∷ 52 ∷ 0 ∷ 0 ∷ []))
    ∷ is (vendor_records_value (52 ∷ 1 ∷ 9 ∷ []) (5 ∷ 5 ∷ 5 ∷ [])) (record { answer = declined 11 3; buffer = 5 ∷ 5 ∷ 5 ∷ [] })
    -- written without END
    ∷ is (vendor_write_value (1 ∷ 0 ∷ 1 ∷ 7 ∷ 52 ∷ 0 ∷ 0 ∷ []) (5 ∷ 5 ∷ 5 ∷ 5 ∷ 5 ∷ 5 ∷ [])) (whole 5 (1 ∷ 1 ∷ 7 ∷ 52 ∷ 0 ∷ 5 ∷ []))
    ∷ is (vendor_write_value [] []) (whole 0 [])
    -- 12 before 10; 10; 13; 11
    ∷ is (vendor_write_value (1 ∷ 0 ∷ 0 ∷ 0 ∷ 0 ∷ 1 ∷ []) []) (record { answer = declined 12 3; buffer = [] })
    ∷ is (vendor_write_value (1 ∷ 0 ∷ 0 ∷ 255 ∷ 0 ∷ 0 ∷ []) []) (record { answer = declined 10 3; buffer = [] })
    ∷ is (vendor_write_value (1 ∷ 1 ∷ 0 ∷ replicate 256 0) []) (record { answer = declined 13 0; buffer = [] })
    ∷ is (vendor_write_value (1 ∷ 0 ∷ 255 ∷ replicate 255 0) []) (record { answer = declined 11 0; buffer = [] })
    ∷ is (vendor_write_value (1 ∷ 0 ∷ 0 ∷ []) (5 ∷ [])) (record { answer = declined 11 1; buffer = 5 ∷ [] })
    -- 255 bytes are given, and 256 are not, with output enough for both
    ∷ is (vendor_write_value (1 ∷ 0 ∷ 253 ∷ replicate 253 7) (replicate 257 5)) (whole 255 (1 ∷ 253 ∷ (replicate 253 7 ++ (5 ∷ 5 ∷ []))))
    ∷ is (vendor_write_value (1 ∷ 0 ∷ 254 ∷ replicate 254 7) (replicate 257 5)) (record { answer = declined 11 257; buffer = replicate 257 5 })
    -- the longest items are read: 254 and 255 bytes of data
    ∷ is (vendor_records_value (1 ∷ 254 ∷ (replicate 254 7 ++ (2 ∷ 255 ∷ replicate 255 8))) (replicate 515 5))
    (whole 515 (1 ∷ 0 ∷ 254 ∷ (replicate 254 7 ++ (2 ∷ 0 ∷ 255 ∷ replicate 255 8))))
    ∷ []

abbrev pub gets : List Case → List Filled
gets [] = []
gets (c ∷ cs) = c.asked ∷ gets cs

abbrev pub wants : List Case → List Filled
wants [] = []
wants (c ∷ cs) = c.answered ∷ wants cs

abbrev pub VendorCasesHold : Type 0
VendorCasesHold = gets cases ≡ wants cases
