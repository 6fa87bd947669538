-- The inventory sheet of a column file (document 02, request 10), as bytes: "A program reads a result .. and prints the reader's refusal as it does,
-- or pages of at most 60 lines".
use Rattle.std.specs.Prelude.{ℕ, zero, suc, ◌+◌, ◌*◌, ◌-◌, ◌/◌, List, [], ◌∷◌, ◌++◌, map, length, take, replicate}
use Prim.Native.Char.{code}
use Prim.Native.String.{String, [] as none_left, ◌∷◌ as ◌and◌}
use Rattle.std.proofs.Math.Option.{Option, none, some}
use Rattle.base.specs.Choice.{pick, if_lt, if_eq}
use Rattle.base.specs.Blit.{part}
use Rattle.base.specs.Checked.{Checked, ok, refused}
use Rattle.mdf.specs.Block.{link_at}
use Rattle.mdf.specs.Group.{samples}
use Rattle.plan.specs.Channel.{is_master_type}
use Rattle.plan.specs.Columns.{remote_link}
use Rattle.result.specs.Listing.{decimal, refusal_text}
use Rattle.result.specs.Sharing.{text_at}
use Rattle.file.specs.Form.{FileColumn, cycles}
use Rattle.file.specs.Opened.{opened}

-- bookkeeping: the bytes of a text in ASCII
abbrev pub ascii : String → List ℕ
ascii none_left = []
ascii (c and cs) = code c ∷ ascii cs

-- ---- fields

-- "text at the left, the rest blanks", in w characters
unfoldable pub left_in : ℕ → List ℕ → List ℕ
left_in w text = text ++ replicate (w - length text) (code " ")

-- "Numbers stand right; one too wide fills its field with `#`."
unfoldable pub right_in : ℕ → ℕ → List ℕ
right_in w n =
    if_lt w (length (decimal n)) (replicate w (code "#")) (replicate (w - length (decimal n)) (code " ") ++ decimal n)

-- ---- what is said of a column

-- "kind (t for type 2 or 3, else s)", of the CN at c
unfoldable pub kind_of : List ℕ → ℕ → List ℕ
kind_of s c = pick (is_master_type s c) (ascii "t") (ascii "s")

-- "up to a zero byte"
unfoldable pub up_to_zero : List ℕ → List ℕ
up_to_zero [] = []
up_to_zero (b ∷ bs) = let more = up_to_zero bs in if_eq b 0 [] (b ∷ more)

-- "Bytes outside 32 to 126 print as `?`"
unfoldable pub printable : ℕ → ℕ
printable b = if_lt b 32 (code "?") (if_lt 126 b (code "?") b)

-- "the first 32 bytes of its CN's name up to a zero byte", "a missing name as `-`": by the kind and the bytes of a text, [] where there is none
abbrev pub name_text : List ℕ → List ℕ
name_text [] = ascii "-"
name_text (kind ∷ bytes) = map printable (up_to_zero (take 32 bytes))

-- the name of the CN at c: "A name link (third of CG and CN) to TX or MD is read for its whole length .. Other kinds mean no name." (document 01)
unfoldable pub name_of : List ℕ → ℕ → List ℕ
name_of s c = name_text (text_at s (link_at s c 2))

-- the number of the column whose CG stands at a, among those from number k on
unfoldable pub number_at : ℕ → ℕ → List FileColumn → Option ℕ
number_at a k [] = none
number_at a k (c ∷ cs) = let later = number_at a (k + 1) cs in if_eq c.cg a (some k) later

-- "master (the column its CG's seventh link leads to under flag bit 3 ..)", among all columns, of the CG at g
unfoldable pub master_of : List ℕ → List FileColumn → ℕ → Option ℕ
master_of s all g = if_eq (remote_link s g) 0 none (number_at (remote_link s g) 0 all)

-- "`-` for none", in a field of 10 characters
abbrev pub master_in : Option ℕ → List ℕ
master_in none = left_in 10 (ascii "-")
master_in (some m) = right_in 10 m

-- ---- lines

-- "one per column with its number, kind .., the first 32 bytes of its CN's name .., its CG's data bytes, records and master", "8, 1, 32, 12, 12 and 10
-- characters wide with one blank between them"
unfoldable pub sheet_line : List ℕ → List FileColumn → ℕ → FileColumn → List ℕ
sheet_line s all k c =
    right_in 8 k ++ ascii " " ++ left_in 1 (kind_of s c.cn) ++ ascii " " ++ left_in 32 (name_of s c.cn) ++ ascii " "
    ++ right_in 12 (samples s c.cg) ++ ascii " " ++ right_in 12 (cycles s c.cg) ++ ascii " " ++ master_in (master_of s all c.cg)

-- of columns from number k on
unfoldable pub sheet_lines : List ℕ → List FileColumn → ℕ → List FileColumn → List (List ℕ)
sheet_lines s all k [] = []
sheet_lines s all k (c ∷ cs) = sheet_line s all k c ∷ sheet_lines s all (k + 1) cs

-- "a heading line `page P of N`", "Every page line has exactly 80 characters, the heading by blanks at its end."
unfoldable pub heading : ℕ → ℕ → List ℕ
heading p n = left_in 80 (ascii "page " ++ decimal p ++ ascii " of " ++ decimal n)

-- ---- pages

-- how many for so many columns: 59 on each but the last. "Without columns there is one page with its heading."
unfoldable pub page_count : ℕ → ℕ
page_count columns = if_eq columns 0 1 ((columns + 58) / 59)

-- "a heading line `page P of N`, then 59 lines, on the last page those left": page i of n, from 0
unfoldable pub page_of : List ℕ → List FileColumn → ℕ → ℕ → List (List ℕ)
page_of s all n i = heading (i + 1) n ∷ sheet_lines s all (59 * i) (part (59 * i) 59 all)

-- so many pages from page i on
unfoldable pub pages_from : List ℕ → List FileColumn → ℕ → ℕ → ℕ → List (List (List ℕ))
pages_from s all n zero i = []
pages_from s all n (suc left) i = page_of s all n i ∷ pages_from s all n left (i + 1)

unfoldable pub pages : List ℕ → List FileColumn → List (List (List ℕ))
pages s all = pages_from s all (page_count (length all)) (page_count (length all)) 0

-- ---- the sheet

-- lines as bytes, each with its newline
unfoldable pub lines_text : List (List ℕ) → List ℕ
lines_text [] = []
lines_text (l ∷ ls) = l ++ ascii "\n" ++ lines_text ls

-- pages, one after the other
unfoldable pub pages_text : List (List (List ℕ)) → List ℕ
pages_text [] = []
pages_text (p ∷ ps) = lines_text p ++ pages_text ps

-- "prints the reader's refusal as it does, or pages"
abbrev pub sheet_of : List ℕ → Checked (List FileColumn) → List ℕ
sheet_of s (ok cs) = pages_text (pages s cs)
sheet_of s (refused number place) = refusal_text number place

unfoldable pub sheet : List ℕ → List ℕ
sheet s = sheet_of s (opened s)
