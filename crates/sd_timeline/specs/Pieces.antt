-- The pieces of which the picture is made.
-- Source: Scalable Vector Graphics 1.1 (rect, line, text, title).
use Rattle.std.specs.Prelude.{ℕ, List, ◌++◌, codes, decimal}

-- ` name="n"`
unfoldable pub attribute : List ℕ → ℕ → List ℕ
attribute name n = codes " " ++ name ++ codes "=\"" ++ decimal n ++ codes "\""

-- the place and size of a rectangle, and the ends of a line
unfoldable pub box_text : ℕ → ℕ → ℕ → ℕ → List ℕ
box_text x y width height = attribute (codes "x") x ++ attribute (codes "y") y ++ attribute (codes "width") width ++ attribute (codes "height") height

unfoldable pub ends_text : ℕ × ℕ → ℕ × ℕ → List ℕ
ends_text from to = attribute (codes "x1") from.0 ++ attribute (codes "y1") from.1 ++ attribute (codes "x2") to.0 ++ attribute (codes "y2") to.1

-- a rectangle with the words that are shown on it between the two
unfoldable pub bar_start : List ℕ → ℕ → ℕ → ℕ → ℕ → List ℕ
bar_start class x y width height = codes "<rect class=\"" ++ class ++ codes "\"" ++ box_text x y width height ++ codes "><title>"

abbrev pub bar_end : List ℕ
bar_end = codes "</title></rect>\n"

-- a rectangle on which nothing is shown
unfoldable pub cover : List ℕ → ℕ → ℕ → ℕ → ℕ → List ℕ
cover class x y width height = codes "<rect class=\"" ++ class ++ codes "\"" ++ box_text x y width height ++ codes "/>\n"

-- a text, with its words between the two
unfoldable pub label_start : List ℕ → ℕ → ℕ → List ℕ
label_start class x y = codes "<text class=\"" ++ class ++ codes "\"" ++ attribute (codes "x") x ++ attribute (codes "y") y ++ codes ">"

abbrev pub label_end : List ℕ
label_end = codes "</text>\n"

unfoldable pub word_label : List ℕ → ℕ → ℕ → List ℕ → List ℕ
word_label class x y word = label_start class x y ++ word ++ label_end

unfoldable pub number_label : List ℕ → ℕ → ℕ → List ℕ → ℕ → List ℕ
number_label class x y word n = label_start class x y ++ (word ++ decimal n) ++ label_end

unfoldable pub grid_line : List ℕ → ℕ × ℕ → ℕ × ℕ → List ℕ
grid_line class from to = codes "<line class=\"" ++ class ++ codes "\"" ++ ends_text from to ++ codes "/>\n"

-- an upright line from one height to another, with the words that are shown on it between the two
unfoldable pub path_ends : ℕ → ℕ → ℕ → List ℕ
path_ends column from to = (codes "\" d=\"M " ++ decimal column) ++ (codes " " ++ decimal from) ++ (codes " V " ++ decimal to)

unfoldable pub path_start : List ℕ → ℕ → ℕ × ℕ → List ℕ
path_start class column heights = codes "<path class=\"" ++ class ++ path_ends column heights.0 heights.1 ++ codes "\"><title>"

abbrev pub path_end : List ℕ
path_end = codes "</title></path>\n"
