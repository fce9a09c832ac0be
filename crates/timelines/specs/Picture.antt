-- The whole picture of a log, byte by byte: a head, the marks in the order of the steps, and a foot.
use Rattle.std.specs.Prelude.{ℕ, ◌+◌, ◌-◌, ◌*◌, ◌/◌, ◌==◌, nat_lt, max, List, [], ◌++◌, length, map, flat_map, codes, decimal, slice_index, if◌then◌else◌}
use Rattle.std.specs.List.{range_with_len}
use Rattle.evt_types.specs.Plan.{queue_in}
use Rattle.evt_types.specs.declared.draft.QueueDraft.{QueueDraft}
use Rattle.evt_types.specs.declared.event.Kind.{Kind}
use Rattle.evt_types.specs.declared.event.Kind.TheVariants.{Ordered, Atomic, Parallel}
use Rattle.evt_types.specs.declared.step.Step.{Step}
use Rattle.timelines.specs.Layout.{Frame, frame_of, row_at, x_at}
use Rattle.timelines.specs.Marks.{Mark, mark_at, mark_text}

-- how wide and how high it is
abbrev pub width_of : ℕ → ℕ → ℕ
width_of unit steps = max 900 (150 + unit * (steps + 1))

-- the first lines
unfoldable pub opening : ℕ → ℕ → ℕ → List ℕ
opening steps width height =
    codes "<svg xmlns='http://www.w3.org/2000/svg' role='graphics-document' width='"
    ++ (decimal width
    ++ (codes "' height='"
    ++ (decimal height
    ++ (codes "' viewBox='0 0 "
    ++ (decimal width
    ++ (codes " "
    ++ (decimal height ++ (codes "' font-family='Helvetica, Arial, sans-serif' font-size='12'>\n<title>Timeline of " ++ (decimal steps ++ codes " steps</title>\n")))))))))

-- how what is drawn looks
unfoldable pub shapes_style : List ℕ
shapes_style =
    codes "<style>\ntext{fill:#1d2126}.a{fill:#5a626c;font-size:10px}.n{font-size:9px}.b{fill:#fff}.q{fill:#eef2f7}.l{fill:#f8f8f4}\n"
    ++ (codes ".w{fill-opacity:.3;stroke-width:1.5}.p{stroke-width:2}.g{stroke:#d5d9df}.s{fill:#1d2126}\n"
    ++ (codes ".t{fill:none;stroke:#1d2126;stroke-width:2}.e{stroke:#1d2126;stroke-width:2;stroke-dasharray:2 3}\n"
    ++ codes ".o{stroke:#7a828c}.k{fill:#fff;stroke:#a0005a;stroke-width:2}.d{stroke:#a0005a;stroke-width:2.5;stroke-dasharray:5 3}\n"))

unfoldable pub colours_style : List ℕ
colours_style =
    codes ".f0{fill:#56b4e9;stroke:#56b4e9}.f1{fill:#e69f00;stroke:#e69f00}.f2{fill:#009e73;stroke:#009e73}.f3{fill:#cc79a7;stroke:#cc79a7}\n"
    ++ codes ".f4{fill:#f0e442;stroke:#b5a900}.f5{fill:#5c8fd6;stroke:#5c8fd6}.f6{fill:#e8743b;stroke:#e8743b}.f7{fill:#999;stroke:#999}.h.p{stroke:#000}\n</style>\n"

-- ---- the legend

unfoldable pub swatch : ℕ → ℕ → List ℕ
swatch colour x =
    codes "<rect class='h f"
    ++ (decimal colour ++ (codes "' x='" ++ (decimal x ++ (codes "' y='36' width='14' height='12' rx='2'/><text x='" ++ (decimal (x + 20) ++ codes "' y='46'>")))))

abbrev pub flow_swatch : List ℕ → ℕ → List ℕ
flow_swatch flows k = swatch k (130 + 95 * k) ++ (decimal (slice_index flows k) ++ codes "</text>\n")

abbrev pub others_swatch : ℕ → List ℕ
others_swatch count = if count == 7 then swatch 7 795 ++ codes "others</text>\n" else []

-- the flows that have a colour each; where there are seven, that of the others
unfoldable pub flows_text : List ℕ → List ℕ
flows_text flows =
    codes "<text x='8' y='46'>Flows</text>\n" ++ (flat_map (flow_swatch flows) (range_with_len 0 (length flows)) ++ others_swatch (length flows))

unfoldable pub bars_legend : List ℕ
bars_legend =
    codes "<text x='8' y='70'>Signs</text>\n<rect class='w f5' x='130' y='60' width='22' height='12' rx='2'/><text x='158' y='70'>waits</text>\n"
    ++ codes "<rect class='h f5' x='250' y='60' width='22' height='12' rx='2'/><text x='278' y='70'>with a lane</text>\n"
    ++ codes "<rect class='h p f5' x='370' y='60' width='22' height='12' rx='2'/><text x='398' y='70'>pins its flow</text>\n"

unfoldable pub answers_legend : List ℕ
answers_legend =
    codes "<path class='t' d='M132 84v12'/><text x='158' y='94'>released</text>\n"
    ++ codes "<path class='s' d='M250 84l7 6l-7 6z'/><text x='278' y='94'>forwarded</text>\n"
    ++ codes "<path class='k' d='M375 84l4 6l-4 6l-4 -6z'/><text x='398' y='94'>kept, for order</text>\n"
    ++ codes "<path class='o' d='M500 66h22'/><text x='528' y='70'>passed on as</text>\n"
    ++ codes "<path class='d' d='M500 90h22'/><text x='528' y='94'>kept meanwhile</text>\n"

unfoldable pub others_legend : List ℕ
others_legend =
    codes "<path class='t' d='M644 62v8m-4 -4h8'/><text x='658' y='70'>added beside</text>\n"
    ++ codes "<path class='t' d='M640 86l8 8m0 -8l-8 8'/><text x='658' y='94'>turned away</text>\n"
    ++ codes "<path class='t' d='M760 63l4 6l4 -6'/><text x='778' y='70'>bounced</text>\n"
    ++ codes "<path class='e' d='M764 82v16'/><text x='778' y='94'>shut</text>\n"

-- ---- the rows, and the numbers of the steps above them

abbrev pub kind_word : Kind → List ℕ
kind_word Ordered = codes "ordered"
kind_word Atomic = codes "atomic"
kind_word Parallel = codes "parallel"

unfoldable pub row_start : ℕ → ℕ → ℕ → ℕ → List ℕ
row_start row queues top extra =
    (if nat_lt row queues then codes "<rect class='q' y='" else codes "<rect class='l' y='") ++ decimal top ++ codes "' height='" ++ decimal (32 + 16 * extra)

unfoldable pub row_name : List QueueDraft → ℕ → List ℕ
row_name qs row = if nat_lt row (length qs) then codes "queue " ++ decimal row ++ codes ", " ++ kind_word (queue_in qs row).kind else codes "lane " ++ decimal (row - length qs)

unfoldable pub row_text : List QueueDraft → Frame → ℕ → ℕ → List ℕ
row_text qs f width row =
    row_start row (length qs) (row_at f.rows row).top (row_at f.rows row).extra
    ++ (codes "' width='"
    ++ (decimal width ++ (codes "'/><text x='8' y='" ++ (decimal ((row_at f.rows row).top + 24) ++ (codes "'>" ++ (row_name qs row ++ codes "</text>\n"))))))

unfoldable pub rows_text : List QueueDraft → Frame → ℕ → List ℕ
rows_text qs f width = flat_map (row_text qs f width) (range_with_len 0 (length f.rows))

-- the number of each fifth step
unfoldable pub line_at : Frame → ℕ → List ℕ
line_at f k =
    codes "<text class='a' x='"
    ++ (decimal (x_at f.unit (5 * k))
    ++ (codes "' y='126'>"
    ++ (decimal (5 * k)
    ++ (codes "</text><path class='g' d='M" ++ (decimal (x_at f.unit (5 * k)) ++ (codes " 130V" ++ (decimal f.bottom ++ codes "'/>\n")))))))

unfoldable pub lines_text : Frame → ℕ → List ℕ
lines_text f steps = flat_map (line_at f) (range_with_len 0 (steps / 5 + 1))

-- ---- the whole

unfoldable pub legend_text : List ℕ → ℕ → List ℕ
legend_text flows steps =
    codes "<rect class='b' width='100%' height='100%'/>\n<text x='8' y='22' font-size='15'>Timeline of " ++ decimal steps ++ codes " steps</text>\n" ++ flows_text flows ++ bars_legend ++ answers_legend ++ others_legend

unfoldable pub head_of : List QueueDraft → Frame → ℕ → List ℕ
head_of qs f steps =
    opening steps (width_of f.unit steps) (f.bottom + 10) ++ shapes_style ++ colours_style ++ legend_text f.flows steps ++ rows_text qs f (width_of f.unit steps) ++ lines_text f steps

abbrev pub foot : List ℕ
foot = codes "</svg>\n"

-- the marks: for each step of the log, in order, the one that is made of it
abbrev pub marks_of : List QueueDraft → Frame → List Step → List Mark
marks_of qs f T = map (mark_at qs f T) (range_with_len 0 (length T))

-- the head, the marks and the picture of a log of a device with these queues and so many lanes
unfoldable pub head : List QueueDraft → ℕ → List Step → List ℕ
head qs ls T = head_of qs (frame_of (length qs) ls T) (length T)

unfoldable pub marks : List QueueDraft → ℕ → List Step → List Mark
marks qs ls T = marks_of qs (frame_of (length qs) ls T) T

unfoldable pub picture : List QueueDraft → ℕ → List Step → List ℕ
picture qs ls T = head qs ls T ++ flat_map mark_text (marks qs ls T) ++ foot
