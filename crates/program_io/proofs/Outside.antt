-- Where octets stand that were read into a part of a buffer. Assumes nothing.
use Rattle.std.proofs.Common.{◌≡◌, ℕ, ◌+◌, ◌≤◌, List, ◌++◌, sym, ap, ◌∙◌, length, take}
use lib.Seq.{take-append-add, take-append-le, length-take-le}
use borrow.Rule.Slice.PartMut.{put_mid, post_of}

-- what was read into the part behind the first `a` stands behind them
pub read-behind : (a n k : ℕ) (xs ys : List ℕ) → a ≤ length xs → n ≤ length ys → take (a + n) (put_mid a k xs ys) ≡ take a xs ++ take n ys
read-behind a n k xs ys h l =
    let f : length (take a xs) ≡ a = length-take-le a xs h in
    ap (λ m. take (m + n) (put_mid a k xs ys)) (sym f)
    ∙ take-append-add (take a xs) (ys ++ post_of a k xs) n
    ∙ ap (λ u. take a xs ++ u) (take-append-le n ys (post_of a k xs) l)
