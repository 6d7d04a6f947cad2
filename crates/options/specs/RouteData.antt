-- CLASSLESS ROUTES IN DATA (document 02, request 14; RFC 3442; docs/RULES.md, N), as relations: where a route stands, where one is looked for, and what is at fault there. Assumes nothing.
use Rattle.std.specs.Prelude.{◌≡◌, List, ◌∷◌, ◌++◌, ℕ, suc, ◌+◌, ◌*◌, ◌≤◌, ◌<◌, length, drop}

-- "the width's whole and begun bytes": n bytes hold w bits, and fewer don't
pub record BytesOf (w n : ℕ) : Type 0 where
  pub holds : w ≤ 8 * n
  pub no_more : 8 * n < w + 8

-- [K16] at the offset i of d stands a route: "a width byte 0 to 32, the width's whole and begun bytes of destination, four bytes of router"
pub record RouteAt (d : List ℕ) (i w : ℕ) (to by : List ℕ) : Type 0 where
  pub after : List ℕ
  pub reads : drop i d ≡ w ∷ (to ++ (by ++ after))
  pub narrow : w ≤ 32
  pub to_bytes : BytesOf w (length to)
  pub by_bytes : length by ≡ 4

-- where a route is looked for: at the start, and behind a route that stands there. So nothing is looked for behind a fault
pub data RouteBegins (d : List ℕ) : ℕ → Type 0 where
  at_start : RouteBegins d 0
  behind_one : {i w : ℕ} {to by : List ℕ} → RouteBegins d i → RouteAt d i w to by → RouteBegins d (i + suc (length to + 4))

-- "a width over 32"
pub record WideAt (d : List ℕ) (i : ℕ) : Type 0 where
  pub width : ℕ
  pub after : List ℕ
  pub reads : drop i d ≡ width ∷ after
  pub wide : 32 < width

-- "a route cut short"
pub record CutAt (d : List ℕ) (i : ℕ) : Type 0 where
  pub width : ℕ
  pub after : List ℕ
  pub size : ℕ
  pub reads : drop i d ≡ width ∷ after
  pub narrow : width ≤ 32
  pub size_is : BytesOf width size
  pub cut : length after < size + 4
